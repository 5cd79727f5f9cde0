use Rattle.nb_core.proofs.Bridge.{run_is}
use Rattle.nb_core.proofs.laws.law_run.Goals as goal

pub returns : goal.returns
returns _ c s t events run = run_is run
