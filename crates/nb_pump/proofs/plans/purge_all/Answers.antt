use Rattle.std.proofs.Common.{arith}
use Rattle.nb_pump.proofs.Going.{going_start, can_purge_all, purges_can, purges_more, can_purge_on, purges_done, purges_refused}
use Rattle.nb_pump.proofs.plans.purge_all.Goals as goal

pub loop-i-init : goal.loop-i-init
loop-i-init g c = (going_start _ c.requires.standing c.requires.on, can_purge_all c.args.ids.now (g.D.Desk.view c.args.desk.now) c.requires.can, λ start h. h, λ h. h)

pub purge-requires : goal.purge-requires
purge-requires g c = purges_can c.args.ids.now c.loop-i.i c.at.result.now _ _ c.at.ensures c.loop-i.invariant.0 c.loop-i.invariant.1

pub loop-i-preserved : goal.loop-i-preserved
loop-i-preserved g c = (
  purges_more c.args.ids.now c.loop-i.i c.at.result.now _ _ _ c.at.ensures c.loop-i.invariant.0 c.in-Ok.ensures.call,
  can_purge_on c.loop-i.i c.at.result.now c.args.ids.now _ _ c.loop-i.invariant.0.end.1 c.requires.once c.at.ensures c.in-Ok.ensures.call c.loop-i.invariant.1,
  λ start h. c.purge.ensures.stands start (c.loop-i.invariant.2 start h),
  λ h. c.purge.ensures.caused (c.loop-i.invariant.3 h),
)

pub returns-clause-purges : goal.returns-clause-purges
returns-clause-purges g c = purges_done c.args.ids.now c.loop-i.i _ _ (omega arith) c.loop-i.invariant.0

pub returns-in-Err-clause-purges : goal.returns-in-Err-clause-purges
returns-in-Err-clause-purges g c = purges_refused c.args.ids.now c.loop-i.i c.at.result.now c.in-Err.fault _ _ _ c.at.ensures c.loop-i.invariant.0 c.in-Err.ensures.call
