use Rattle.std.proofs.Common.{◌∙◌}
use Rattle.std.proofs.lemmas.Result.{IfOk-weaker}
use Rattle.nb_eval.proofs.Bodies.{body_of-from}
use Rattle.nb_eval.proofs.make.body_of.Goals as goal

pub returns : goal.returns
returns c = IfOk-weaker c.of_string.result _ _ (λ t e. e ∙ body_of-from _ c.args.fields _ c.in_ok-value.ensures c.in_ok-text.ensures.text) c.of_string.ensures
