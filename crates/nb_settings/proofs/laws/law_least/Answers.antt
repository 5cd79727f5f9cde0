use Rattle.nb_settings.proofs.LeastLaws.{finds_least}
use Rattle.nb_settings.proofs.laws.law_least.Goals as goal

pub returns : goal.returns
returns c = finds_least
