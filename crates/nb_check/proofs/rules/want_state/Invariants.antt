use Rattle.std.proofs.Common.{◌≡◌, ◌++◌, drop}
use Rattle.nb_check.specs.Rules as spec
use Rattle.nb_check.proofs.rules.want_state.Given as goal

abbrev pub invariant-loop-f : goal.invariant-loop-f
invariant-loop-f l = l.fn.breaches ++ spec.state_faults l.revision l.fields ≡ l.breaches ++ spec.state_faults l.revision (drop l.f-index l.fields)
