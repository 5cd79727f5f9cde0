use Rattle.nb_script.specs.Tree.{script}
use Rattle.nb_eval.proofs.MeaningLaws.{is_meaning}
use Rattle.nb_eval.proofs.handling.HandlersHandling.is_meaning.Goals as goal

pub returns : goal.returns
returns c = is_meaning (script c.args.self.now.checked) c.items-rules.ensures.rules
