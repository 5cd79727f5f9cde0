use Rattle.std.proofs.Common.{◌≡◌}
use Rattle.std.specs.FinMap as finite
use Rattle.nb_ready.proofs.tree.rising.Given as goal

abbrev pub invariant-loop-above : goal.invariant-loop-above
invariant-loop-above l = l.tree.0 ≡ finite.insert (finite.insert finite.empty l.n l.fn.s) l.m l.fn.t
