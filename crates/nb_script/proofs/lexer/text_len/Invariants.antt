use Rattle.std.proofs.Common.{length, drop, ◌≡◌, ◌-◌, ◌≤◌}
use Rattle.nb_script.specs.Lexing.{text_from}
use Rattle.nb_script.proofs.TextLen.{plus}
use Rattle.nb_script.proofs.lexer.text_len.Given as goal

abbrev pub invariant-loop-at : goal.invariant-loop-at
invariant-loop-at l = (plus l.at (text_from 0 (drop l.at l.bytes)) ≡ text_from 0 l.bytes) × (l.at ≤ length l.bytes)

abbrev pub decreases-loop-at : goal.decreases-loop-at
decreases-loop-at l = length l.bytes - l.at
