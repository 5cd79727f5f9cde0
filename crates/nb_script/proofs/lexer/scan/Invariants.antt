use Rattle.std.proofs.Common.{length, drop, ◌≡◌, ◌-◌, ◌≤◌}
use Rattle.nb_script.specs.Lexing.{lex}
use Rattle.nb_script.proofs.LexTurns.{before}
use Rattle.nb_script.proofs.lexer.scan.Given as goal

abbrev pub invariant-loop : goal.invariant-loop
invariant-loop l = (before l.tokens (lex (length l.text - l.counter) l.at (drop l.at l.text)) ≡ lex (length l.text) 0 l.text) × (l.at ≤ length l.text)
