use Rattle.nb_dispatch.proofs.BatchLaws.{count_up, tell_apart}
use Rattle.nb_dispatch.proofs.laws.law_ids.Goals as goal

pub returns-clause-numbered : goal.returns-clause-numbered
returns-clause-numbered c = count_up

pub returns-clause-apart : goal.returns-clause-apart
returns-clause-apart c = tell_apart
