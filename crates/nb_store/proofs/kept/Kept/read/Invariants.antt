use Rattle.std.proofs.Common.{◌≡◌, take}
use Rattle.nb_base.specs.Shown.{stored, seen}
use Rattle.nb_store.proofs.kept.Kept.read.Given as goal

abbrev pub invariant-loop-i : goal.invariant-loop-i
invariant-loop-i l = l.reads ≡ seen (stored l.self) (take l.i l.keys)
