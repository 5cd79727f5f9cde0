use Rattle.std.proofs.Common.{arith, refl}
use Rattle.nb_schedule.proofs.Ending.{may_tick, ticked}
use Rattle.nb_schedule.proofs.stage.Stage.tick.Goals as goal

pub tick-requires : goal.tick-requires
tick-requires c =
    let to = c.seconds.ensures.value in
    let now = c.seconds-else-not-is_empty.ensures.value in
    let later = c.if-seconds.false in
    may_tick _ _ _ _ _ c.self.invariant (c.if-not-is_empty.ensures refl) c.args.to (omega (arith, to, now, later))

pub invariant_of-self : goal.invariant_of-self
invariant_of-self c = ticked _ _ _ _ _ c.self.invariant (c.if-not-is_empty.ensures refl) c.args.to _ c.in-Ok.ensures.call
