use Rattle.nb_script.specs.Tree.{script}
use Rattle.nb_eval.proofs.MeaningLaws.{shown-fits}
use Rattle.nb_eval.proofs.handling.HandlersHandling.judge.Goals as goal

pub evaluate-requires : goal.evaluate-requires
evaluate-requires c = record { fits = shown-fits (script c.args.self.now.checked) c.args.envelope.now c.args.reads c.requires }
