use Rattle.std.proofs.Common.{◌≡◌, drop, map}
use Rattle.nb_script.specs.Tree.{arg}
use Rattle.nb_check.specs.Statements.{all_given}
use Rattle.nb_check.proofs.follow.all_given.Given as goal

abbrev pub invariant-loop-d : goal.invariant-loop-d
invariant-loop-d l = all_given (drop l.d-index l.declared) (map arg l.args) ≡ all_given l.declared (map arg l.args)
