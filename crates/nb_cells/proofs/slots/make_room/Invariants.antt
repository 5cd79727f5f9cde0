use Rattle.std.proofs.Common.{◌≡◌, take}
use Rattle.nb_cells.specs.Slots.{shown, HaveSlots}
use Rattle.nb_cells.proofs.slots.make_room.Given as goal

abbrev pub invariant-loop-staged : goal.invariant-loop-staged
invariant-loop-staged l = (shown l.slots.entries ≡ shown l.fn.slots.entries) × HaveSlots l.slots (take l.staged-index l.batch)
