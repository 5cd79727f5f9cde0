use Rattle.std.proofs.Common.{arith}
use Rattle.nb_schedule.proofs.Turning.{put_it, put_refused}
use Rattle.nb_schedule.proofs.stage.Stage.aside.Goals as goal

pub invariant_of-self : goal.invariant_of-self
invariant_of-self c =
    let below = c.if-w-self.false in
    rw c.sit.ensures (put_it _ _ _ _ _ c.self.invariant c.args.w (omega (arith, below)) _ c.in-Ok.ensures.call)

pub invariant_of-self-in-Err : goal.invariant_of-self-in-Err
invariant_of-self-in-Err c =
    let below = c.if-w-self.false in
    put_refused _ _ _ _ _ c.self.invariant c.args.w (omega (arith, below)) _ c.in-Err.fault c.in-Err.ensures.call
