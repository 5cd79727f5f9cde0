use Rattle.std.proofs.Common.{◌∙◌}
use Rattle.std.proofs.lemmas.Result.{IfOk-weaker}
use Rattle.nb_script.specs.Tree.{script}
use Rattle.nb_check.proofs.SiteLaws.{met_of_type}
use Rattle.nb_check.proofs.checked.Checked.met.Goals as goal

pub returns : goal.returns
returns c = IfOk-weaker c.fitting.result _ _ (λ ns h. h ∙ met_of_type (script c.args.self.now) c.args.m.now c.numbers_of.result.now c.numbers_of.ensures) c.fitting.ensures
