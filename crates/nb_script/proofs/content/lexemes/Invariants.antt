use Rattle.std.proofs.Common.{take, map, ◌≡◌}
use Rattle.nb_script.specs.Lexing.{lexeme_of}
use Rattle.nb_script.proofs.content.lexemes.Given as goal

abbrev pub invariant-loop-token : goal.invariant-loop-token
invariant-loop-token l = l.lexemes.items ≡ map (lexeme_of l.text) (take l.token-index l.tokens)
