use Rattle.std.proofs.Common.{take}
use Rattle.nb_envelope.proofs.WriteLaws.{Wrote}
use Rattle.nb_saga_store.specs.Spelled.{spelled_field, IsField}
use Rattle.nb_saga_store.proofs.put.put_each.Given as goal

abbrev pub invariant-loop-i : goal.invariant-loop-i
invariant-loop-i l = Wrote IsField spelled_field l.fn.out.items l.out.items (take l.i l.fields)
