use Rattle.std.proofs.Common.{arith}
use Rattle.nb_pump.proofs.Going.{going_start, can_all, returns_can, returns_can_drop, returns_more, returns_can_on, returns_done, returns_refused, returns_kept}
use Rattle.nb_pump.proofs.plans.return_all.Goals as goal

pub loop-i-init : goal.loop-i-init
loop-i-init g c = (going_start _ c.requires.standing c.requires.on, can_all c.args.numbers.now (g.D.Desk.view c.args.desk.now) c.requires.can, λ start h. h, λ h. h)

pub put_back-requires : goal.put_back-requires
put_back-requires g c = returns_can c.args.numbers.now c.loop-i.i c.at-number.result.now _ _ c.at-number.ensures c.loop-i.invariant.0 c.loop-i.invariant.1

pub drop_back-requires : goal.drop_back-requires
drop_back-requires g c = returns_can_drop c.args.numbers.now c.loop-i.i c.at-number.result.now _ _ _ c.loop-i.invariant.0 c.in-Ok.ensures.call

pub loop-i-preserved : goal.loop-i-preserved
loop-i-preserved g c = (
  returns_more c.args.numbers.now c.loop-i.i c.at-number.result.now _ _ _ _ c.at-number.ensures c.loop-i.invariant.0 c.in-Ok.ensures.call c.in-Ok-drop_back.ensures.call,
  returns_can_on c.args.numbers.now c.loop-i.i c.at-number.result.now _ _ _ _ c.requires.once c.at-number.ensures c.loop-i.invariant.0 c.in-Ok.ensures.call c.in-Ok-drop_back.ensures.call c.loop-i.invariant.1,
  λ start h. c.drop_back.ensures.stands start (c.put_back.ensures.stands start (c.loop-i.invariant.2 start h)),
  λ h. c.drop_back.ensures.caused (c.put_back.ensures.caused (c.loop-i.invariant.3 h)),
)

pub returns-clause-returns : goal.returns-clause-returns
returns-clause-returns g c = returns_done c.args.numbers.now c.loop-i.i _ _ (omega arith) c.loop-i.invariant.0

pub returns-in-Err-clause-returns : goal.returns-in-Err-clause-returns
returns-in-Err-clause-returns g c = returns_refused c.args.numbers.now c.loop-i.i c.at-number.result.now c.in-Err.fault _ _ _ c.at-number.ensures c.loop-i.invariant.0 c.in-Err.ensures.call

pub returns-in-Err-drop_back-clause-returns : goal.returns-in-Err-drop_back-clause-returns
returns-in-Err-drop_back-clause-returns g c =
    returns_kept c.args.numbers.now c.loop-i.i c.at-number.result.now c.in-Err-drop_back.fault _ _ _ _ c.at-number.ensures c.loop-i.invariant.0 c.in-Ok.ensures.call c.in-Err-drop_back.ensures.call
