use Rattle.nb_core.proofs.Joining.{legal_more}
use Rattle.nb_core.proofs.laws.law_more.Goals as goal

pub returns : goal.returns
returns _ c o events s t event legal off worker step = legal_more legal off worker step
