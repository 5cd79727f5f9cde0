use Rattle.std.proofs.Common.{drop, map, ◌≡◌, ◌++◌}
use Rattle.nb_script.specs.Printing.{all_of, behind_comma, arg}
use Rattle.nb_script.specs.Tree as seen
use Rattle.nb_script.proofs.line.Line.more_args.Given as goal

abbrev pub invariant-loop-arg : goal.invariant-loop-arg
invariant-loop-arg l = l.fn.self ++ all_of (behind_comma arg) (map seen.arg l.args) ≡ l.self ++ all_of (behind_comma arg) (map seen.arg (drop l.arg-index l.args))
