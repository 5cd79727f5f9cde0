use Rattle.std.proofs.Common.{ap}
use Rattle.nb_eval.specs.Meanings.{meaning_of}
use Rattle.nb_hub.specs.Ledgers.{past_of}
use Rattle.nb_hub.specs.declared.ledger.Course.{Course}
use Rattle.nb_script.specs.Tree.{script}
use Rattle.nb_schedule.proofs.Ending.{staged_new}
use Rattle.nb_schedule.proofs.Routing.{routes_of}
use Rattle.nb_schedule.specs.declared.lent.Lent.{Lent}
use Rattle.nb_schedule.proofs.stage.Stage.open.Goals as goal

pub start-requires : goal.start-requires
start-requires c = routes_of (script c.args.handlers.now.checked) c.in-Ok.settings c.in-Ok.ensures

pub invariant_of-result : goal.invariant_of-result
invariant_of-result c =
    let k : Course = c.in-Ok-start.hub.course in
    let is = c.in-Ok-start.ensures.course in
    rw c.new.ensures
    (staged_new (meaning_of (script c.args.handlers.now.checked)) c.args.terms.now.workers c.args.terms.now.moment (past_of (meaning_of (script c.in-Ok-start.hub.handlers.handlers.now.checked)) k).fixed k.events
    (ap (λ (x : Course). x.events) is) (ap (λ (l : Lent). meaning_of (script l.handlers.now.checked)) c.in-Ok-start.ensures.handlers) (ap (λ (x : Course). x.opening.workers) is) (ap (λ (x : Course). x.opening.moment) is) c.legal.ensures)
