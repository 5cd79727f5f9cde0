use Rattle.std.proofs.Common.{take}
use Rattle.nb_queue.specs.Opening.{AreLoaded}
use Rattle.nb_queue.proofs.opening.load_entries.Given as goal

abbrev pub invariant-loop-i : goal.invariant-loop-i
invariant-loop-i l = AreLoaded l.next l.entries (take l.i l.cells)
