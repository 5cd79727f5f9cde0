use Rattle.std.proofs.Common.{◌≡◌, ◌++◌, ◌∷◌, drop}
use Rattle.nb_check.specs.Rules as spec
use Rattle.nb_check.proofs.rules.placed_state.Given as goal

abbrev pub invariant-loop-f : goal.invariant-loop-f
invariant-loop-f l = (spec.placed_field l.saga.correlation ∷ spec.placed_state l.saga.fields) ≡ l.placed ++ spec.placed_state (drop l.f-index l.saga.fields)
