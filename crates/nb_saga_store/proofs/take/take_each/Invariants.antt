use Rattle.std.proofs.Common.{◌≡◌, ◌-◌}
use Rattle.nb_envelope.specs.Cells.{items_in}
use Rattle.nb_saga_store.specs.Read.{field_in}
use Rattle.nb_saga_store.proofs.ItemsLaws.{onto}
use Rattle.nb_saga_store.proofs.take.take_each.Given as goal

abbrev pub invariant-loop : goal.invariant-loop
invariant-loop l = onto l.fields (items_in field_in (l.count - l.counter) l.rest) ≡ items_in field_in l.count l.bytes
