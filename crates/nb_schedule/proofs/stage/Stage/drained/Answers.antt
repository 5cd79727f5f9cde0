use Rattle.nb_schedule.proofs.Ending.{told_drained}
use Rattle.nb_schedule.proofs.stage.Stage.drained.Goals as goal

pub invariant_of-self : goal.invariant_of-self
invariant_of-self c = told_drained _ _ _ _ _ c.self.invariant c.args.until c.drained.result _ c.drained.ensures.call
