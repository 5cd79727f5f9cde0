use Rattle.std.proofs.Common.{◌≡◌, take}
use Rattle.nb_base.specs.Shown.{stored, seen}
use Rattle.nb_core.proofs.showing.seen.Given as goal

abbrev pub invariant-loop-i : goal.invariant-loop-i
invariant-loop-i l = l.reads ≡ seen (stored l.tables) (take l.i l.keys)
