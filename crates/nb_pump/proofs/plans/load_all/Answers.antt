use Rattle.std.proofs.Common.{◌≡◌, ◌∙◌, ap, sym, arith}
use Rattle.std.specs.Prelude.{Some, slice_get}
use Rattle.nb_base.specs.Messages.{Message}
use Rattle.nb_pump.proofs.Going.{going_start, loads_more, loads_done, loads_refused, loads_unasked}
use Rattle.nb_pump.proofs.plans.load_all.Goals as goal

pub loop-i-init : goal.loop-i-init
loop-i-init g c = (going_start _ c.requires.standing c.requires.on, λ start h. h, λ h. h)

pub loop-i-preserved : goal.loop-i-preserved
loop-i-preserved g c =
    let at : slice_get c.args.messages.now c.loop-i.i ≡ Some c.in-Ok.envelope = c.at.ensures ∙ ap (λ (m : Message). Some m) (sym c.in-Ok.ensures) in (
      loads_more c.args.messages.now c.loop-i.i c.in-Ok.envelope _ _ _ at c.loop-i.invariant.0 c.in-Ok-load.ensures.call,
      λ start h. c.load.ensures.stands start (c.loop-i.invariant.1 start h),
      λ h. c.load.ensures.caused (c.loop-i.invariant.2 h),
    )

pub returns-clause-loads : goal.returns-clause-loads
returns-clause-loads g c = loads_done c.args.messages.now c.loop-i.i _ _ (omega arith) c.loop-i.invariant.0

pub returns-in-Err-clause-loads : goal.returns-in-Err-clause-loads
returns-in-Err-clause-loads g c = loads_unasked c.args.messages.now c.loop-i.i c.at.result.now _ _ c.at.ensures c.loop-i.invariant.0

pub returns-in-Err-load-clause-loads : goal.returns-in-Err-load-clause-loads
returns-in-Err-load-clause-loads g c =
    let at : slice_get c.args.messages.now c.loop-i.i ≡ Some c.in-Ok.envelope = c.at.ensures ∙ ap (λ (m : Message). Some m) (sym c.in-Ok.ensures) in
    loads_refused c.args.messages.now c.loop-i.i c.in-Ok.envelope c.in-Err-load.fault _ _ _ at c.loop-i.invariant.0 c.in-Err-load.ensures.call
