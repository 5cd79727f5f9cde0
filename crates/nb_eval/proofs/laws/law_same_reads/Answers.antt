use Rattle.nb_script.specs.Tree.{script}
use Rattle.nb_eval.proofs.LocalVerdicts.{verdict-same}
use Rattle.nb_eval.proofs.laws.law_same_reads.Goals as goal

pub returns : goal.returns
returns c = λ t u e at same. verdict-same (script c.args.c.now) c.items-rules.ensures.rules t u e at same
