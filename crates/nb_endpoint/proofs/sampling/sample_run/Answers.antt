use Rattle.std.proofs.Common.{◌≡◌, [], None, refl, ap}
use Rattle.std.proofs.lemmas.Result.{IfOk-weaker}
use Rattle.nb_endpoint.specs.Asked.{asked_by}
use Rattle.nb_endpoint.specs.Sampling.{no_cells}
use Rattle.nb_endpoint.specs.declared.job.Job.{Job}
use Rattle.nb_endpoint.specs.declared.lent.Lent.{Lent}
use Rattle.nb_endpoint.proofs.Routing.{routes_of}
use Rattle.nb_endpoint.proofs.Sampled.{no_sample, none_told, some_turns_in, summary_of}
use Rattle.nb_endpoint.proofs.Starting.{started_new}
use Rattle.nb_eval.specs.Meanings.{meaning_of}
use Rattle.nb_script.specs.Tree.{script}
use Rattle.nb_endpoint.proofs.sampling.sample_run.Goals as goal

pub start-requires : goal.start-requires
start-requires c = routes_of (script c.in_ok-job.job.handlers.checked) c.in_ok-job.job.settings c.in_ok-job.ensures.settings_are.routed

pub returns-in-Ok : goal.returns-in-Ok
returns-in-Ok c =
    let job : Job = c.in_ok-job.job in
    let k = c.in-Ok.hub.course in
    let sample = c.in_ok-job.ensures in
    let new = started_new job (record { messages = job.messages; moment = job.moment; until = c.plus.result }) (meaning_of (script c.in-Ok.hub.handlers.handlers.now.checked)) k
    k.opening.tables k.opening.post _ _ (ap (λ (l : Lent). meaning_of (script l.handlers.now.checked)) c.in-Ok.ensures.handlers) c.in-Ok.ensures.course refl c.plus.ensures
    (some_turns_in job.said c.args.seed c.args.count sample.said_is) (no_sample job.said c.args.seed c.args.count sample.said_is) in
    IfOk-weaker c.summarize.result _ _
    (λ text sum. summary_of c.args.seed c.args.count (asked_by job) c.in_ok-error.error k.opening text sample c.in_ok-error.ensures
    (c.in-Ok.ensures.base_cells no_cells (record { honest_is = tt; firm_is = tt; now_is = rw c.empty-base.ensures (none_told (record { reads = []; applies = []; stop = None })) }))
    (c.in-Ok.ensures.post_cells no_cells (record { honest_is = tt; firm_is = tt; now_is = rw c.empty-post.ensures (none_told (record { reads = []; applies = []; stop = None })) })) sum)
    (c.summarize.ensures (asked_by job) new)
