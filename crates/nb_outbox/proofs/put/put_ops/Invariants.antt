use Rattle.std.proofs.Common.{take}
use Rattle.nb_envelope.proofs.WriteLaws.{Wrote}
use Rattle.nb_outbox.specs.Spelled.{spelled_op, IsOp}
use Rattle.nb_outbox.proofs.put.put_ops.Given as goal

abbrev pub invariant-loop-i : goal.invariant-loop-i
invariant-loop-i l = Wrote IsOp spelled_op l.fn.out.items l.out.items (take l.i l.ops)
