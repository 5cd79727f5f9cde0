use Rattle.std.proofs.lemmas.Result.{err_from_is_err_and}
use Rattle.nb_outbox.specs.Read.{op_in}
use Rattle.nb_outbox.proofs.ItemsLaws.{goes_on, ends, is_done}
use Rattle.nb_outbox.proofs.take.take_ops.Goals as goal

pub returns-in_err-op : goal.returns-in_err-op
returns-in_err-op c =
    let p = err_from_is_err_and c.from_residual.result c.from_residual.ensures.1 in
    rw (p.1, p.2) (ends c.in_err-op.field-0.0 op_in _ _ _ _ _ c.loop-test.true c.in_err-op.ensures c.loop.invariant)

pub loop-preserved : goal.loop-preserved
loop-preserved c = rw c.in_ok-push.ensures.ok (goes_on op_in _ _ _ _ _ _ _ c.loop-test.true c.in_ok-op.ensures c.loop.invariant)

pub returns : goal.returns
returns c = is_done op_in _ _ _ _ _ c.loop-test.false c.loop.invariant
