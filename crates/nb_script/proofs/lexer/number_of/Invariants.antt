use Rattle.std.proofs.Common.{drop, ◌≡◌, ◌≤◌}
use Rattle.nb_script.specs.Lexing.{value_after}
use Rattle.nb_script.proofs.lexer.number_of.Given as goal

abbrev pub invariant-loop-b : goal.invariant-loop-b
invariant-loop-b l = (value_after l.n (drop l.b-index l.digits) ≡ value_after 0 l.digits) × (l.n ≤ 9223372036854775807)
