use Rattle.std.proofs.Common.{drop, ◌≡◌, ◌++◌}
use Rattle.nb_script.specs.Printing.{escaped}
use Rattle.nb_script.proofs.printer.Printer.push_all_escaped.Given as goal

abbrev pub invariant-loop-b : goal.invariant-loop-b
invariant-loop-b l = l.fn.self ++ escaped l.bytes ≡ l.self ++ escaped (drop l.b-index l.bytes)
