use Rattle.std.proofs.Common.{◌≡◌, ◌++◌, length}
use Rattle.nb_check.specs.Breaches.{twice}
use Rattle.nb_check.proofs.breach.want_pairs.Given as goal

abbrev pub invariant-loop-left : goal.invariant-loop-left
invariant-loop-left l = l.fn.breaches ++ twice l.rule l.names ≡ l.breaches ++ twice l.rule l.left

abbrev pub decreases-loop-left : goal.decreases-loop-left
decreases-loop-left l = length l.left
