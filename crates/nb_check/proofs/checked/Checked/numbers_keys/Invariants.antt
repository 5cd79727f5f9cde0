use Rattle.std.proofs.Common.{◌≡◌, ◌++◌, drop}
use Rattle.nb_script.specs.Tree.{script}
use Rattle.nb_check.specs.Blocks.{blocks}
use Rattle.nb_check.specs.Sites.{numbers_keys}
use Rattle.nb_check.proofs.checked.Checked.numbers_keys.Given as goal

abbrev pub invariant-loop-number : goal.invariant-loop-number
invariant-loop-number l = numbers_keys l.m l.known (blocks (script l.self)) l.numbers ≡ l.keys ++ numbers_keys l.m l.known (blocks (script l.self)) (drop l.number-index l.numbers)
