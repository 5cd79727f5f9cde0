use Rattle.std.proofs.Common.{◌≡◌, map, take}
use Rattle.nb_cells.specs.Slots.{staged_of}
use Rattle.nb_cells.proofs.slots.stage.Given as goal

abbrev pub invariant-loop-change : goal.invariant-loop-change
invariant-loop-change l = l.batch.items ≡ map staged_of (take l.change-index l.change-items)
