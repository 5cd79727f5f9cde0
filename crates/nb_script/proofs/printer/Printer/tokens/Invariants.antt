use Rattle.std.proofs.Common.{drop, ◌≡◌, ◌++◌}
use Rattle.nb_script.specs.Printing.{texts}
use Rattle.nb_script.proofs.printer.Printer.tokens.Given as goal

abbrev pub invariant-loop-token : goal.invariant-loop-token
invariant-loop-token l = l.fn.self ++ texts l.tokens ≡ l.self ++ texts (drop l.token-index l.tokens)
