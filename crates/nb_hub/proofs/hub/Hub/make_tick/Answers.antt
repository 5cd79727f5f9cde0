use Rattle.std.proofs.Common.{Ok, Err, false, refl, sym, ap, subst, arith}
use Rattle.std.proofs.lemmas.Result.{err_from_is_err_and}
use Rattle.nb_core.specs.Calls.{Ready}
use Rattle.nb_core.specs.declared.call.Answer.TheVariants as answer
use Rattle.nb_core.specs.declared.call.Call.TheVariants as call
use Rattle.nb_core.specs.declared.event.Event.TheVariants.{Tick}
use Rattle.nb_core.specs.declared.state.State.{State}
use Rattle.nb_hub.proofs.Serving.{served_refused, served_event}
use Rattle.nb_hub.proofs.Steps.{tick_comes}
use Rattle.nb_hub.proofs.Went.{kept}
use Rattle.nb_hub.specs.Kept.{seen}
use Rattle.nb_hub.specs.Ledgers.{past_of}
use Rattle.nb_hub.proofs.hub.Hub.make_tick.Goals as goal

pub returns-in_err-begin : goal.returns-in_err-begin
returns-in_err-begin g c =
    let p = err_from_is_err_and c.from_residual.result c.from_residual.ensures.1 in
    rw (p.1, p.2, sym c.self.view_is)
    (served_refused g.D.Cells.honest g.D.Cells.now g.D.Cells.images g.D.Cells.firm g.D.Cells.count g.P.Cells.honest g.P.Cells.now g.P.Cells.images g.P.Cells.firm g.P.Cells.count (call.Tick c.args.to) (λ why. answer.Plain (Err why)) _ _ false _ _ c.in_err-begin.field-0.0
    (ap (past_of (g.M.Handling.meaning c.self.inside.handlers)) c.in_err-begin.ensures.room) c.self.invariant.legal c.in_err-begin.ensures.begins (λ why own r. r))

pub invariant_of-self-2 : goal.invariant_of-self-2
invariant_of-self-2 g c =
    let m = g.M.Handling.meaning c.self.inside.handlers in
    let p = past_of m c.self.inside.ledger in
    let k = c.self.invariant in
    let ready = subst (λ v. Ready (call.Tick c.args.to) (seen (past_of (g.M.Handling.meaning v.handlers) v.course))) (sym c.self.view_is) c.requires in
    let comes = tick_comes p c.args.to c.in_ok-begin.ensures.begins ready in
    kept p _ _ (Tick c.args.to) _ (ap (past_of m) c.in_ok-begin.ensures.room) (ap (past_of m) c.note.ensures) k.legal comes
    _ _ _ _ _ _ _ _ _ _ k refl (ap (λ (s : State). record s { moment = c.args.to }) k.state) refl k.held k.short (omega arith) (omega arith)

pub returns : goal.returns
returns g c =
    let m = g.M.Handling.meaning c.self.inside.handlers in
    let p = past_of m c.self.inside.ledger in
    let ready = subst (λ v. Ready (call.Tick c.args.to) (seen (past_of (g.M.Handling.meaning v.handlers) v.course))) (sym c.self.view_is) c.requires in
    let comes = tick_comes p c.args.to c.in_ok-begin.ensures.begins ready in
    rw (sym c.self.view_is)
    (served_event g.D.Cells.honest g.D.Cells.now g.D.Cells.images g.D.Cells.firm g.D.Cells.count g.P.Cells.honest g.P.Cells.now g.P.Cells.images g.P.Cells.firm g.P.Cells.count (call.Tick c.args.to) (answer.Plain (Ok tt)) p _ _ (Tick c.args.to) _
    (ap (past_of m) c.in_ok-begin.ensures.room) (ap (past_of m) c.note.ensures) c.self.invariant.legal comes refl refl _ _ refl refl)
