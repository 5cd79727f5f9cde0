use Rattle.nb_script.specs.Tree.{script}
use Rattle.nb_eval.proofs.Reaching.{plan-reached}
use Rattle.nb_eval.proofs.laws.law_writes.Goals as goal

pub returns : goal.returns
returns c = λ t sound e at plan done. plan-reached (script c.args.c.now) c.items-rules.ensures.rules t sound e at plan done
