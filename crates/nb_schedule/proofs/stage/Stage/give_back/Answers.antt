use Rattle.std.proofs.Common.{arith, refl}
use Rattle.nb_schedule.proofs.Ending.{standing}
use Rattle.nb_schedule.proofs.stage.Stage.give_back.Goals as goal

pub return_at-answer-requires : goal.return_at-answer-requires
return_at-answer-requires c =
    let some = c.if-workers-eq0.false in
    standing _ _ _ _ _ c.self.invariant (c.if-not-is_empty.ensures refl) (omega (arith, some))
