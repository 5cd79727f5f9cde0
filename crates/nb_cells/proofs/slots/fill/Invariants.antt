use Rattle.std.proofs.Common.{◌≡◌, fold, drop}
use Rattle.nb_cells.specs.Slots.{shown, with_staged, HaveSlots}
use Rattle.nb_cells.proofs.slots.fill.Given as goal

abbrev pub invariant-loop-staged : goal.invariant-loop-staged
invariant-loop-staged l = (fold with_staged (shown l.slots.entries) (drop l.staged-index l.batch) ≡ fold with_staged (shown l.fn.slots.entries) l.fn.batch) × HaveSlots l.slots (drop l.staged-index l.batch)
