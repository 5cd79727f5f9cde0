use Rattle.std.proofs.Common.{◌≡◌, ◌+◌, ◌*◌, ◌-◌, ◌<◌, ◌≤◌, get_or, drop, sym, ◌∙◌, arith}
use Rattle.nb_script.specs.Lexing.{value_after}
use Rattle.nb_script.proofs.Digits.{too_great, at_least, at_least_ten, next_digit}
use Rattle.nb_script.proofs.lexer.number_of.Goals as goal

pub returns-then-n-gt922337203685477580-clause-value : goal.returns-then-n-gt922337203685477580-clause-value
returns-then-n-gt922337203685477580-clause-value c =
    let above : 922337203685477580 < c.loop-b.n = c.if-n-gt922337203685477580.true in
    let least : c.loop-b.n * 10 ≤ value_after 0 c.args.digits.now = at_least_ten c.args.digits.now c.loop-b.b-index c.loop-b.n c.loop-b-test.true c.loop-b.invariant.0 in
    too_great c.args.digits.now (omega arith)

pub returns-then-n-gt9223372036854775807-clause-value : goal.returns-then-n-gt9223372036854775807-clause-value
returns-then-n-gt9223372036854775807-clause-value c =
    let digit : c.from.result ≡ get_or c.args.digits.now c.loop-b.b-index 0 - 48 = c.from.ensures ∙ c.saturating_sub.ensures in
    let above : 9223372036854775807 < c.loop-b.n * 10 + c.from.result = c.if-n-gt9223372036854775807.true in
    let least : c.loop-b.n * 10 + (get_or c.args.digits.now c.loop-b.b-index 0 - 48) ≤ value_after 0 c.args.digits.now =
    at_least c.args.digits.now _ (drop (c.loop-b.b-index + 1) c.args.digits.now) (sym (next_digit c.args.digits.now c.loop-b.b-index c.loop-b.n c.loop-b-test.true) ∙ c.loop-b.invariant.0) in
    too_great c.args.digits.now (omega arith)
