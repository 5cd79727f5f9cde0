use Rattle.std.proofs.Common.{◌≡◌, map}
use Rattle.std.specs.List.{filter_map}
use Rattle.std.specs.Map.Iter.{deref_pair}
use Rattle.nb_cells.specs.Slots.{cell_in}
use Rattle.nb_cells.proofs.table.Table.listed.Given as goal

abbrev pub invariant-loop-place : goal.invariant-loop-place
invariant-loop-place l = l.cells ≡ filter_map (cell_in l.asked) (map deref_pair l.yielded)
