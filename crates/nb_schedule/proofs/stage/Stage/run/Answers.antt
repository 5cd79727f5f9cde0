use Rattle.std.proofs.Common.{arith, refl}
use Rattle.nb_schedule.proofs.Ending.{standing}
use Rattle.nb_schedule.proofs.stage.Stage.run.Goals as goal

pub run_at-answer-requires-clause-standing : goal.run_at-answer-requires-clause-standing
run_at-answer-requires-clause-standing c =
    let some = c.if-workers-eq0.false in
    standing _ _ _ _ _ c.self.invariant (c.if-not-is_empty.ensures refl) (omega (arith, some))
