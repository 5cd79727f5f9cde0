use Rattle.nb_core.proofs.Joining.{legal_without_halt}
use Rattle.nb_core.proofs.laws.law_halt.Goals as goal

pub returns : goal.returns
returns _ c o events store s t event legal worker step = legal_without_halt events store legal worker step
