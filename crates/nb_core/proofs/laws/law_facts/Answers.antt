use Rattle.nb_core.proofs.Facing.{facts}
use Rattle.nb_core.proofs.laws.law_facts.Goals as goal

pub returns : goal.returns
returns _ c h s means legal = facts means legal.sound legal.run
