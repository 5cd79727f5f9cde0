use Rattle.std.proofs.Common.{◌≡◌, ◌-◌, ◌+◌, ◌≤◌, length, drop, ap, sym, ◌∙◌, arith}
use Rattle.nb_script.specs.Lexing.{lex}
use Rattle.nb_script.proofs.LexTurns.{before, at_end, at_gap, at_token, at_bad, at_over}
use Rattle.nb_script.proofs.lexer.scan.Goals as goal
use Rattle.nb_script.proofs.lexer.scan.Goals.{in-Gap, in-Token+in_ok-push-in-Token}

pub returns-in-End : goal.returns-in-End
returns-in-End c = sym (at_end c.loop.tokens c.args.text.now _ (length c.args.text.now) c.loop.counter c.loop.at (omega arith) c.split_at.ensures.back c.in-End.ensures.value) ∙ c.loop.invariant.0

pub returns-in-Bad : goal.returns-in-Bad
returns-in-Bad c = sym (at_bad c.loop.tokens c.args.text.now _ (length c.args.text.now) c.loop.counter c.loop.at c.in-Bad.fault (omega arith) c.split_at.ensures.back c.in-Bad.ensures.value) ∙ c.loop.invariant.0

pub loop-preserved : goal.loop-preserved
loop-preserved c = elim c.match-front_of.branch [
  | in-Gap w ↦ rw (w.tokens-is, w.at-is) (
    sym (at_gap c.loop.tokens c.args.text.now _ (length c.args.text.now) c.loop.counter c.loop.at w.in-Gap.n (omega arith) c.split_at.ensures.back w.in-Gap.ensures.value) ∙ c.loop.invariant.0,
    (let bound : w.in-Gap.n ≤ length c.split_at.result.1.now = w.in-Gap.ensures.bound in let back : length c.split_at.result.1.now + c.loop.at ≡ length c.args.text.now = c.split_at.ensures.back_len in omega arith),
  )
  | in-Token+in_ok-push-in-Token w ↦ rw (w.tokens-is, w.at-is) (
    ap (λ xs. before xs (lex (length c.args.text.now - (c.loop.counter + 1)) (c.loop.at + w.in-Token.n) (drop (c.loop.at + w.in-Token.n) c.args.text.now))) w.in_ok-push-in-Token.ensures.ok
        ∙ sym (at_token c.loop.tokens c.args.text.now _ (length c.args.text.now) c.loop.counter c.loop.at w.in-Token.n w.in-Token.kind (omega arith) c.split_at.ensures.back w.in-Token.ensures.value) ∙ c.loop.invariant.0,
    (let bound : w.in-Token.n ≤ length c.split_at.result.1.now = w.in-Token.ensures.bound in let back : length c.split_at.result.1.now + c.loop.at ≡ length c.args.text.now = c.split_at.ensures.back_len in omega arith),
  )
]

pub returns : goal.returns
returns c = sym (at_over c.loop.tokens (length c.args.text.now - c.loop.counter) c.loop.at _ (omega arith)) ∙ c.loop.invariant.0
