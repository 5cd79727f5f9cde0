use Rattle.nb_core.proofs.Stating.{state_facts}
use Rattle.nb_core.proofs.laws.law_state.Goals as goal

pub returns : goal.returns
returns _ c h s means legal = state_facts means legal.sound legal.run
