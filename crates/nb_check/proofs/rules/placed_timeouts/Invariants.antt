use Rattle.std.proofs.Common.{◌≡◌, ◌++◌, drop, map}
use Rattle.nb_script.specs.Tree.{part}
use Rattle.nb_check.specs.Rules as spec
use Rattle.nb_check.proofs.rules.placed_timeouts.Given as goal

abbrev pub invariant-loop-p : goal.invariant-loop-p
invariant-loop-p l = spec.placed_timeouts (map part l.parts) ≡ l.placed ++ spec.placed_timeouts (map part (drop l.p-index l.parts))
