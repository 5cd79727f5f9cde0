use Rattle.nb_core.proofs.Held.{phase_empty}
use Rattle.nb_core.proofs.Sending.{sent}
use Rattle.nb_core.proofs.laws.law_sent.Goals as goal

pub returns : goal.returns
returns _ c h s legal = sent legal.run phase_empty
