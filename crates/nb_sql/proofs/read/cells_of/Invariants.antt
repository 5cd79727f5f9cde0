use Rattle.std.proofs.Common.{take}
use Rattle.nb_sql.specs.Shown.{AreShown}
use Rattle.nb_sql.proofs.read.cells_of.Given as goal

abbrev pub invariant-loop-row : goal.invariant-loop-row
invariant-loop-row l = AreShown l.space (take l.row-index l.rows) l.cells
