use Rattle.std.proofs.Common.{◌≡◌, ◌++◌, ◌∷◌, drop}
use Rattle.nb_check.specs.Declarations.{field_of}
use Rattle.nb_check.specs.Rules as spec
use Rattle.nb_check.proofs.rules.saga_kinds.Given as goal

abbrev pub invariant-loop-f : goal.invariant-loop-f
invariant-loop-f l = (field_of l.saga.correlation ∷ spec.state_kinds l.saga.fields) ≡ l.kinds ++ spec.state_kinds (drop l.f-index l.saga.fields)
