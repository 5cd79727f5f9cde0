use Rattle.std.proofs.Common.{◌≡◌, ◌+◌, ◌≤◌, length, get_or, Some, ap, sym, ◌∙◌, arith}
use Rattle.nb_script.specs.Lexing.{inside_len}
use Rattle.nb_script.proofs.TextLen.{at_none, at_close, at_step, at_end}
use Rattle.nb_script.proofs.lexer.text_len.Goals as goal

pub returns-in_err-step-clause-value : goal.returns-in_err-step-clause-value
returns-in_err-step-clause-value c =
    c.from_residual.ensures ∙ at_none c.args.bytes.now c.loop-at.at c.loop-at-test.true c.loop-at.invariant.0
    (c.in_err-step.ensures.value ∙ ap (inside_len (get_or c.args.bytes.now c.loop-at.at 0)) c.split_at.ensures.back)

pub returns-then-step-eq0-clause-value : goal.returns-then-step-eq0-clause-value
returns-then-step-eq0-clause-value c =
    at_close c.args.bytes.now c.loop-at.at c.loop-at-test.true c.loop-at.invariant.0
    (ap Some (sym c.if-step-eq0.true) ∙ c.in_ok-step.ensures.value ∙ ap (inside_len (get_or c.args.bytes.now c.loop-at.at 0)) c.split_at.ensures.back)

pub loop-at-preserved : goal.loop-at-preserved
loop-at-preserved c =
    let bound : c.in_ok-step.step ≤ length c.split_at.result.1.now + 1 = c.in_ok-step.ensures.bound in
    let back : length c.split_at.result.1.now + (c.loop-at.at + 1) ≡ length c.args.bytes.now = c.split_at.ensures.back_len in
    let within : c.loop-at.at + c.in_ok-step.step ≤ length c.args.bytes.now = omega arith in (
      at_step c.args.bytes.now c.loop-at.at c.in_ok-step.step c.loop-at-test.true c.loop-at.invariant.0
          (c.in_ok-step.ensures.value ∙ ap (inside_len (get_or c.args.bytes.now c.loop-at.at 0)) c.split_at.ensures.back) (omega arith) within,
      within,
    )

pub returns-clause-value : goal.returns-clause-value
returns-clause-value c = at_end c.args.bytes.now c.loop-at.at c.loop-at-test.false c.loop-at.invariant.0
