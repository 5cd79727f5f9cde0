use Rattle.std.proofs.Common.{◌-◌, arith}
use Rattle.std.proofs.lemmas.Result.{err_from_is_err_and}
use Rattle.nb_pump.proofs.Following.{unsent_refused, dispatch_start, may_send, dispatch_next, dispatch_refused, dispatch_end, dispatched}
use Rattle.nb_pump.proofs.rest.dispatch.Goals as goal

pub returns-in_err-left-clause-follows : goal.returns-in_err-left-clause-follows
returns-in_err-left-clause-follows g c =
    let p = err_from_is_err_and c.from_residual.result c.from_residual.ensures.1 in
    rw (p.1, p.2) (unsent_refused c.args.w c.in_err-left.field-0.0 _ _ c.in_err-left.ensures.call)

pub loop-init : goal.loop-init
loop-init g c = ((c.in_ok-left.left, omega arith, dispatch_start c.args.w c.in_ok-left.left _ _ c.requires.0 c.in_ok-left.ensures.call), c.unsent.ensures.stands, c.unsent.ensures.caused)

pub send-requires : goal.send-requires
send-requires g c =
    let i = c.loop.invariant.0 in
    let sum = i.1 in
    let more = c.loop-test.true in
    may_send c.args.w i.0 _ _ i.2 (omega arith)

pub loop-preserved : goal.loop-preserved
loop-preserved g c =
    let i = c.loop.invariant.0 in
    let sum = i.1 in
    let more = c.loop-test.true in (
      (i.0 - 1, omega arith, dispatch_next c.args.w i.0 (i.0 - 1) _ _ _ (omega arith) i.2 c.in_ok-send.ensures.call),
      λ start h. c.send.ensures.stands start (c.loop.invariant.1 start h),
      λ h. c.send.ensures.caused (c.loop.invariant.2 h),
    )

pub mark-requires : goal.mark-requires
mark-requires g c =
    let i = c.loop.invariant.0 in
    let sum = i.1 in
    let over = c.loop-test.false in
    dispatch_end c.args.w i.0 _ _ (omega arith) i.2

pub returns-clause-follows : goal.returns-clause-follows
returns-clause-follows g c = dispatched c.args.w c.loop.invariant.0.0 c.mark.result _ _ _ c.loop.invariant.0.2 c.mark.ensures.follows

pub returns-in_err-send-clause-follows : goal.returns-in_err-send-clause-follows
returns-in_err-send-clause-follows g c =
    let i = c.loop.invariant.0 in
    let p = err_from_is_err_and c.from_residual-in_err-send.result c.from_residual-in_err-send.ensures.1 in
    let sum = i.1 in
    let more = c.loop-test.true in
    rw (p.1, p.2) (dispatch_refused c.args.w i.0 c.in_err-send.field-0.0 _ _ _ (omega arith) i.2 c.in_err-send.ensures.call)
