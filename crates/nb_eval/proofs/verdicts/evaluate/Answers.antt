use Rattle.std.proofs.Common.{◌∙◌, sym, true≢false}
use Rattle.std.proofs.lemmas.Result.{IfOk-weaker}
use Rattle.nb_script.specs.Tree.{script}
use Rattle.nb_eval.specs.Worlds.{seen_in}
use Rattle.nb_eval.proofs.Evaluations.{evaluated}
use Rattle.nb_eval.proofs.verdicts.evaluate.Goals as goal

pub returns-clause-verdict : goal.returns-clause-verdict
returns-clause-verdict c =
    IfOk-weaker c.on_body.result _ _
    (λ o h. evaluated (script c.args.c.now) (seen_in c.args.reads) c.args.e.now c.args.moment c.in-Some.m c.in_ok-met.met o.verdict (sym c.in_ok-m.ensures ∙ c.in-Some.is) c.in_ok-met.ensures
    (λ e. true≢false (sym (c.is_empty.ensures.1 e) ∙ c.if-is_empty.false)) h)
    c.on_body.ensures.verdict
