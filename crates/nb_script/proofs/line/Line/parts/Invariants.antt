use Rattle.std.proofs.Common.{drop, map, ◌≡◌, ◌++◌}
use Rattle.nb_script.specs.Printing.{all_of, part}
use Rattle.nb_script.specs.Tree as seen
use Rattle.nb_script.proofs.line.Line.parts.Given as goal

abbrev pub invariant-loop-part : goal.invariant-loop-part
invariant-loop-part l = l.fn.self ++ all_of part (map seen.part l.parts) ≡ l.self ++ all_of part (map seen.part (drop l.part-index l.parts))
