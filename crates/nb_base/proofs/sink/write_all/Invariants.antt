use Rattle.std.proofs.Common.{◌-◌, length}
use Rattle.nb_base.proofs.Joins.{Written}
use Rattle.nb_base.proofs.sink.write_all.Given as goal

abbrev pub invariant-loop-at : goal.invariant-loop-at
invariant-loop-at g l = Written l.from l.at (g.O.Sink.held l.fn.out) (g.O.Sink.held l.out) (g.O.Sink.count l.fn.out) (g.O.Sink.count l.out)

abbrev pub decreases-loop-at : goal.decreases-loop-at
decreases-loop-at g l = length l.from - l.at
