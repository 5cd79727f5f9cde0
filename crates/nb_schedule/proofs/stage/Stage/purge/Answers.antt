use Rattle.std.proofs.Common.{arith, refl}
use Rattle.nb_schedule.proofs.Ending.{standing}
use Rattle.nb_schedule.proofs.stage.Stage.purge.Goals as goal

pub purge_at-answer-requires : goal.purge_at-answer-requires
purge_at-answer-requires c =
    let some = c.if-workers-eq0.false in
    standing _ _ _ _ _ c.self.invariant (c.if-not-is_empty.ensures refl) (omega (arith, some))
