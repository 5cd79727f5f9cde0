use Rattle.std.proofs.Common.{◌≡◌, take}
use Rattle.nb_cells.specs.Table.{table_of}
use Rattle.nb_cells.proofs.table.Table.of_cells.Given as goal

abbrev pub invariant-loop-cell : goal.invariant-loop-cell
invariant-loop-cell l = l.table ≡ table_of (take l.cell-index l.cells)
