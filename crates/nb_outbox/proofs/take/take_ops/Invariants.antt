use Rattle.std.proofs.Common.{◌≡◌, ◌-◌}
use Rattle.nb_envelope.specs.Cells.{items_in}
use Rattle.nb_outbox.specs.Read.{op_in}
use Rattle.nb_outbox.proofs.ItemsLaws.{onto}
use Rattle.nb_outbox.proofs.take.take_ops.Given as goal

abbrev pub invariant-loop : goal.invariant-loop
invariant-loop l = onto l.ops (items_in op_in (l.count - l.counter) l.rest) ≡ items_in op_in l.count l.bytes
