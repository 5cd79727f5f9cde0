use Rattle.nb_core.proofs.Bridge.{step_after}
use Rattle.nb_core.proofs.laws.law_after.Goals as goal

pub returns : goal.returns
returns _ c s t event step = step_after step
