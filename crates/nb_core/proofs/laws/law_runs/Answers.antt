use Rattle.nb_core.proofs.Joining.{legal_joined, joined_within}
use Rattle.nb_core.proofs.laws.law_runs.Goals as goal

pub returns-clause-legal : goal.returns-clause-legal
returns-clause-legal k c s t a b tables post = legal_joined a b tables post

pub returns-clause-within : goal.returns-clause-within
returns-clause-within k turns a b = joined_within turns k.args.first.now k.args.second.now a b
