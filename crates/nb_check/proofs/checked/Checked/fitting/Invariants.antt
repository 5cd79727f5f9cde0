use Rattle.std.proofs.Common.{◌≡◌, ◌++◌, drop}
use Rattle.nb_script.specs.Tree.{script}
use Rattle.nb_check.specs.Blocks.{blocks}
use Rattle.nb_check.specs.Sites.{fitting}
use Rattle.nb_check.proofs.checked.Checked.fitting.Given as goal

abbrev pub invariant-loop-number : goal.invariant-loop-number
invariant-loop-number l = fitting l.m (blocks (script l.self)) l.numbers ≡ l.met ++ fitting l.m (blocks (script l.self)) (drop l.number-index l.numbers)
