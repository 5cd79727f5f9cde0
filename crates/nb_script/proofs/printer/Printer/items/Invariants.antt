use Rattle.std.proofs.Common.{drop, ◌≡◌, ◌++◌}
use Rattle.nb_script.specs.Printing.{printed}
use Rattle.nb_script.specs.Tree.{script}
use Rattle.nb_script.proofs.printer.Printer.items.Given as goal

abbrev pub invariant-loop-item : goal.invariant-loop-item
invariant-loop-item l = l.fn.self ++ printed (script l.items) ≡ l.self ++ printed (script (drop l.item-index l.items))
