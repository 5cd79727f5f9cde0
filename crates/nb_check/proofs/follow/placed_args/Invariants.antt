use Rattle.std.proofs.Common.{◌≡◌, ◌++◌, drop, map}
use Rattle.nb_script.specs.Tree.{arg}
use Rattle.nb_check.specs.Statements.{placed_args}
use Rattle.nb_check.proofs.follow.placed_args.Given as goal

abbrev pub invariant-loop-a : goal.invariant-loop-a
invariant-loop-a l = placed_args (map arg l.args) ≡ l.placed ++ placed_args (map arg (drop l.a-index l.args))
