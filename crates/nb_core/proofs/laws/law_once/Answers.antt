use Rattle.nb_core.proofs.Committing.{once}
use Rattle.nb_core.proofs.laws.law_once.Goals as goal

pub returns : goal.returns
returns _ c h s legal = once legal.run
