use Rattle.std.proofs.Common.{◌-◌, ◌+◌, vec_len}
use Rattle.nb_base.proofs.Joins.{Read}
use Rattle.nb_base.proofs.source.read_all.Given as goal

abbrev pub invariant-loop-room : goal.invariant-loop-room
invariant-loop-room g l = Read l.limit l.bytes.items (g.S.Source.left l.fn.source) (g.S.Source.left l.source) (g.S.Source.count l.fn.source) (g.S.Source.count l.source)

abbrev pub decreases-loop-room : goal.decreases-loop-room
decreases-loop-room g l = l.limit + 1 - vec_len l.bytes
