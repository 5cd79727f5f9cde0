use Rattle.std.proofs.Common.{◌≡◌, ◌++◌, drop, map}
use Rattle.nb_script.specs.Tree.{part, saga}
use Rattle.nb_check.specs.Rules as spec
use Rattle.nb_check.proofs.rules.want_parts.Given as goal

abbrev pub invariant-loop-p : goal.invariant-loop-p
invariant-loop-p l = l.fn.breaches ++ spec.parts_faults l.messages (spec.saga_sight (saga l.saga)) l.saga.correlation.kind (map part l.saga.parts) ≡ l.breaches ++ spec.parts_faults l.messages (spec.saga_sight (saga l.saga)) l.saga.correlation.kind (map part (drop l.p-index l.saga.parts))
