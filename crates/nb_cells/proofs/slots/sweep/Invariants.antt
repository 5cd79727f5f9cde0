use Rattle.std.proofs.Common.{◌≡◌}
use Rattle.nb_cells.specs.Slots.{shown}
use Rattle.nb_cells.proofs.slots.sweep.Given as goal

abbrev pub invariant-loop-staged : goal.invariant-loop-staged
invariant-loop-staged l = shown l.slots.entries ≡ shown l.fn.slots.entries
