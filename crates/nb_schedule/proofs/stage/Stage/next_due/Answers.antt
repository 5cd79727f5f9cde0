use Rattle.nb_schedule.proofs.Ending.{told_due}
use Rattle.nb_schedule.proofs.stage.Stage.next_due.Goals as goal

pub invariant_of-self : goal.invariant_of-self
invariant_of-self c = told_due _ _ _ _ _ c.self.invariant c.next_due.result _ c.next_due.ensures.call
