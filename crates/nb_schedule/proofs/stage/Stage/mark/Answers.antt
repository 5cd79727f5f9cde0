use Rattle.std.proofs.Common.{arith}
use Rattle.std.specs.Prelude.{Ok}
use Rattle.nb_schedule.proofs.Turning.{asked, marked_it, mark_refused}
use Rattle.nb_schedule.proofs.stage.Stage.mark.Goals as goal

pub invariant_of-self : goal.invariant_of-self
invariant_of-self c =
    let below = c.if-w-self.false in
    let st = asked _ _ _ _ _ c.self.invariant c.args.w (omega (arith, below)) _ (Ok c.in-Ok-eq0.field-0) c.in-Ok-eq0.ensures.call in
    rw c.sit.ensures (marked_it _ _ _ _ _ st c.args.w (omega (arith, below)) _ c.in-Ok-mark.ensures.call)

pub invariant_of-self-in-Err-mark : goal.invariant_of-self-in-Err-mark
invariant_of-self-in-Err-mark c =
    let below = c.if-w-self.false in
    let st = asked _ _ _ _ _ c.self.invariant c.args.w (omega (arith, below)) _ (Ok c.in-Ok-eq0.field-0) c.in-Ok-eq0.ensures.call in
    mark_refused _ _ _ _ _ st c.args.w (omega (arith, below)) _ c.in-Err-mark.fault c.in-Err-mark.ensures.call
