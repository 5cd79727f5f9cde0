use Rattle.std.proofs.Common.{arith, refl}
use Rattle.nb_schedule.proofs.Turning.{sends}
use Rattle.nb_schedule.proofs.stage.Stage.send.Goals as goal

pub invariant_of-self-in-Ok : goal.invariant_of-self-in-Ok
invariant_of-self-in-Ok c =
    let below = c.if-w-self.false in
    let some = c.in-Ok.field-0-test in
    sends _ _ _ _ _ c.self.invariant c.args.w (omega (arith, below)) _ c.in-Ok.field-0 (omega (arith, some)) (c.if-not-is_sending.ensures refl) c.in-Ok.ensures.call c.send.result _ c.send.ensures.call
