use Rattle.nb_script.specs.Tree.{script}
use Rattle.nb_eval.proofs.LocalVerdicts.{verdict-seen}
use Rattle.nb_eval.proofs.laws.law_reads.Goals as goal

pub returns : goal.returns
returns c = λ t e at. verdict-seen (script c.args.c.now) c.items-rules.ensures.rules t e at
