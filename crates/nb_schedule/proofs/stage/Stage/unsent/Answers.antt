use Rattle.std.proofs.Common.{arith}
use Rattle.nb_schedule.proofs.Turning.{asked}
use Rattle.nb_schedule.proofs.stage.Stage.unsent.Goals as goal

pub invariant_of-self : goal.invariant_of-self
invariant_of-self c =
    let below = c.if-w-self.false in
    asked _ _ _ _ _ c.self.invariant c.args.w (omega (arith, below)) _ c.unsent.result c.unsent.ensures.call
