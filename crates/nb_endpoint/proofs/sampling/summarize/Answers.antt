use Rattle.std.proofs.Common.{arith}
use Rattle.std.proofs.lemmas.Result.{IfOk-weaker}
use Rattle.nb_hub.specs.Ledgers.{past_of}
use Rattle.nb_endpoint.proofs.Finishing.{standing_new}
use Rattle.nb_endpoint.proofs.Sampled.{summed}
use Rattle.nb_endpoint.proofs.sampling.summarize.Goals as goal

pub work-done-requires-clause-standing : goal.work-done-requires-clause-standing
work-done-requires-clause-standing g c =
    let p = past_of (g.M.Handling.meaning c.args.hub.handlers) c.args.hub.course in
    let one = c.requires.one in
    standing_new p.fixed p.events c.requires.none (omega (arith, one)) c.legal.ensures

pub returns-in-Ok-true : goal.returns-in-Ok-true
returns-in-Ok-true g c = λ a new.
    let p = past_of (g.M.Handling.meaning c.args.hub.handlers) c.args.hub.course in
    let q = past_of (g.M.Handling.meaning c.work-done.new.hub.handlers) c.work-done.new.hub.course in
    IfOk-weaker c.summary.result _ _
    (λ text is. summed a c.args.said c.args.task.now p q c.close-history.result.history new c.in-Ok-true.field-0 c.in-Ok-true.ensures.works c.close-history.ensures.legal c.close-history.ensures.history
    c.close-history.result.state c.args.said.seed c.args.said.count c.args.error.now text c.in-Ok-true.field-0-test c.close-history.ensures.state is)
    c.summary.ensures
