use Rattle.nb_schedule.proofs.Ending.{loaded}
use Rattle.nb_schedule.proofs.stage.Stage.load.Goals as goal

pub invariant_of-self : goal.invariant_of-self
invariant_of-self c = loaded _ _ _ _ _ c.self.invariant c.args.envelope c.load.result _ c.load.ensures.call
