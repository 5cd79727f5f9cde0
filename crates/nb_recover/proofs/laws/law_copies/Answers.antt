use Rattle.nb_recover.proofs.CopyFacts.{keep_ids, carry_round, name_endpoint}
use Rattle.nb_recover.proofs.laws.law_copies.Goals as goal

pub returns-clause-ids : goal.returns-clause-ids
returns-clause-ids c = keep_ids

pub returns-clause-round : goal.returns-clause-round
returns-clause-round c = carry_round

pub returns-clause-queue : goal.returns-clause-queue
returns-clause-queue c = name_endpoint
