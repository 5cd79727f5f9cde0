use Rattle.std.proofs.Common.{◌≡◌, ◌+◌, ◌++◌, length}
use Rattle.nb_dispatch.specs.Dispatches.{ops_to}
use Rattle.nb_dispatch.proofs.ops.push_ops.Given as goal

abbrev pub invariant-loop-left : goal.invariant-loop-left
invariant-loop-left l = l.ops ++ ops_to l.batch.settings.now l.batch.incoming.now l.batch.n l.batch.moment l.intent (length l.ops + 1) l.left ≡ l.initial.ops ++ ops_to l.batch.settings.now l.batch.incoming.now l.batch.n l.batch.moment l.intent (length l.initial.ops + 1) l.queues

abbrev pub decreases-loop-left : goal.decreases-loop-left
decreases-loop-left l = length l.left
