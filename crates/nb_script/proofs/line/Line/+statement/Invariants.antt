use Rattle.std.proofs.Common.{drop, ◌≡◌, ◌++◌, ◌∷◌}
use Rattle.nb_script.specs.declared.lexeme.Content.TheVariants as c
use Rattle.nb_script.specs.declared.lexeme.Symbol.TheVariants as sym
use Rattle.nb_script.specs.Printing.{statements}
use Rattle.nb_script.specs.Tree.{listed}
use Rattle.nb_script.proofs.line.Line.+statement.Given as goal

abbrev pub invariant-block-loop-statement : goal.invariant-block-loop-statement
invariant-block-loop-statement l = l.fn.self ++ c.Symbol sym.OpenBrace ∷ statements (listed l.block.body) ≡ l.self ++ statements (listed (drop l.statement-index l.block.body))
