use Rattle.std.proofs.Common.{◌≡◌, ◌+◌, ◌++◌, length}
use Rattle.std.specs.List.{AllByRecursion}
use Rattle.nb_dispatch.specs.Dispatches.{CanDispatch, ops_from}
use Rattle.nb_dispatch.proofs.ops.ops_of.Given as goal

abbrev pub invariant-loop-left : goal.invariant-loop-left
invariant-loop-left l = AllByRecursion (CanDispatch l.settings) l.left × (l.ops ++ ops_from l.settings l.incoming l.n l.fn.moment (length l.ops + 1) l.left ≡ ops_from l.settings l.incoming l.n l.fn.moment 1 l.intents)

abbrev pub decreases-loop-left : goal.decreases-loop-left
decreases-loop-left l = length l.left
