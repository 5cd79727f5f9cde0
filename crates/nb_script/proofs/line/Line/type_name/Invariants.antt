use Rattle.std.proofs.Common.{drop, ◌≡◌, ◌++◌}
use Rattle.nb_script.specs.Printing.{type_name, all_of, dotted}
use Rattle.nb_script.proofs.line.Line.type_name.Given as goal

abbrev pub invariant-loop-dotted : goal.invariant-loop-dotted
invariant-loop-dotted l = l.fn.self ++ type_name l.name ≡ l.self ++ all_of dotted (drop l.dotted-index l.name.others)
