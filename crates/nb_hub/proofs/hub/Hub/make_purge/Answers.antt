use Rattle.std.proofs.Common.{Ok, Err, true, false, refl, sym, ap, ◌∙◌, subst, arith}
use Rattle.std.proofs.lemmas.Result.{err_from_is_err_and}
use Rattle.nb_core.specs.Calls.{Ready}
use Rattle.nb_core.specs.declared.call.Answer.TheVariants as answer
use Rattle.nb_core.specs.declared.call.Call.TheVariants as call
use Rattle.nb_core.specs.declared.state.State.{State}
use Rattle.nb_hub.proofs.Went.{kept}
use Rattle.nb_hub.specs.Kept.{held_state, seen}
use Rattle.nb_hub.specs.Ledgers.{past_of, state_at, with_event}
use Rattle.nb_core.specs.declared.event.Event.TheVariants.{Purge}
use Rattle.nb_hub.proofs.Refusals.{refused_base_kept, never_spent_base, fault_of_commit}
use Rattle.nb_hub.proofs.Serving.{served_refused, served_quietly, served_base, stopped_base}
use Rattle.nb_hub.proofs.Steps.{purge_comes}
use Rattle.nb_hub.proofs.Stopped.{base_stop}
use Rattle.nb_hub.proofs.Tending.{sent_there}
use Rattle.nb_store.specs.Applied.{Applied}
use Rattle.nb_store.specs.Calls.{purged}
use Rattle.nb_hub.proofs.hub.Hub.make_purge.Goals as goal

pub returns-in_err-begin : goal.returns-in_err-begin
returns-in_err-begin g c =
    let p = err_from_is_err_and c.from_residual.result c.from_residual.ensures.1 in
    rw (p.1, p.2, sym c.self.view_is)
    (served_refused g.D.Cells.honest g.D.Cells.now g.D.Cells.images g.D.Cells.firm g.D.Cells.count g.P.Cells.honest g.P.Cells.now g.P.Cells.images g.P.Cells.firm g.P.Cells.count (call.Purge c.args.id.now) (λ why. answer.Plain (Err why)) _ _ false _ _ c.in_err-begin.field-0.0
    (ap (past_of (g.M.Handling.meaning c.self.inside.handlers)) c.in_err-begin.ensures.room) c.self.invariant.legal c.in_err-begin.ensures.begins (λ why own r. r))

pub returns-in_err-copy : goal.returns-in_err-copy
returns-in_err-copy g c =
    let p = err_from_is_err_and c.from_residual-in_err-copy.result c.from_residual-in_err-copy.ensures.1 in
    rw (p.1, p.2, sym c.self.view_is)
    (served_quietly g.D.Cells.honest g.D.Cells.now g.D.Cells.images g.D.Cells.firm g.D.Cells.count g.P.Cells.honest g.P.Cells.now g.P.Cells.images g.P.Cells.firm g.P.Cells.count (call.Purge c.args.id.now) _ _ _ true _ _
    (ap (past_of (g.M.Handling.meaning c.self.inside.handlers)) c.in_ok-begin.ensures.room) c.self.invariant.legal (refl, c.in_ok-begin.ensures.begins))

pub purge-requires : goal.purge-requires
purge-requires g c =
    let m = g.M.Handling.meaning c.self.inside.handlers in
    let p = past_of m c.self.inside.ledger in
    let k = c.self.invariant in
    let begun = ap (past_of m) c.in_ok-begin.ensures.room in
    let ready = subst (λ v. Ready (call.Purge c.args.id.now) (seen (past_of (g.M.Handling.meaning v.handlers) v.course))) (sym c.self.view_is) c.requires in
    sent_there p _ k.state c.args.id.now ready

pub stop_base-requires-clause-fault : goal.stop_base-requires-clause-fault
stop_base-requires-clause-fault g c = fault_of_commit c.in-Err.fault c.in-Err.ensures.answers

pub invariant_of-self-in-Ok : goal.invariant_of-self-in-Ok
invariant_of-self-in-Ok g c =
    let m = g.M.Handling.meaning c.self.inside.handlers in
    let p = past_of m c.self.inside.ledger in
    let k = c.self.invariant in
    let begun = ap (past_of m) c.in_ok-begin.ensures.room in
    let ready = subst (λ v. Ready (call.Purge c.args.id.now) (seen (past_of (g.M.Handling.meaning v.handlers) v.course))) (sym c.self.view_is) c.requires in
    let comes = purge_comes p c.args.id.now c.in_ok-begin.ensures.begins ready in
    kept p _ _ (Purge c.args.id.now) _ begun (ap (past_of m) (c.note.ensures ∙ ap (λ x. with_event c.begin.new.self (Purge x)) c.in_ok-copy.ensures)) k.legal comes
    _ _ _ _ _ _ _ _ _ _ k refl (ap (λ q. held_state q c.self.inside.transport.post.queues c.self.inside.moment c.self.inside.phases c.self.inside.fails c.self.inside.back c.self.inside.discarded.items) c.in-Ok.ensures.tables ∙ ap (λ (s : State). record s { tables = purged s.tables c.args.id.now }) k.state) refl
    k.held k.short c.in-Ok.ensures.cause.later (omega arith)

pub invariant_of-self-in-Err-1 : goal.invariant_of-self-in-Err-1
invariant_of-self-in-Err-1 g c =
    let m = g.M.Handling.meaning c.self.inside.handlers in
    let k = c.self.invariant in
    refused_base_kept (past_of m c.self.inside.ledger) _ _ (ap (past_of m) c.in_ok-begin.ensures.room) k.legal c.in_ok-begin.ensures.begins c.in-Err.fault c.stop_base.result _ _ _ _ _ _ _
    (base_stop m _ _ c.in-Err.fault _ c.stop_base.ensures) k c.in-Err.ensures.cause (ap (λ q. held_state q c.self.inside.transport.post.queues c.self.inside.moment c.self.inside.phases c.self.inside.fails c.self.inside.back c.self.inside.discarded.items) c.in-Err.ensures.tables)

pub returns-in-Ok : goal.returns-in-Ok
returns-in-Ok g c =
    let m = g.M.Handling.meaning c.self.inside.handlers in
    let p = past_of m c.self.inside.ledger in
    let k = c.self.invariant in
    let begun = ap (past_of m) c.in_ok-begin.ensures.room in
    let ready = subst (λ v. Ready (call.Purge c.args.id.now) (seen (past_of (g.M.Handling.meaning v.handlers) v.course))) (sym c.self.view_is) c.requires in
    rw (sym c.self.view_is)
    (served_base g.D.Cells.honest g.D.Cells.now g.D.Cells.images g.D.Cells.firm g.D.Cells.count g.P.Cells.honest g.P.Cells.now g.P.Cells.images g.P.Cells.firm g.P.Cells.count (call.Purge c.args.id.now) (answer.Plain (Ok tt)) p _ _ (Purge c.args.id.now) _
    begun (ap (past_of m) (c.note.ensures ∙ ap (λ x. with_event c.begin.new.self (Purge x)) c.in_ok-copy.ensures)) k.legal (purge_comes p c.args.id.now c.in_ok-begin.ensures.begins ready) refl refl _ _ _ tt refl
    (subst (λ (s : State). Applied g.D.Cells.honest g.D.Cells.now g.D.Cells.images g.D.Cells.firm c.self.inside.store.base c.purge.new.self.base s.tables (purged s.tables c.args.id.now) (Ok tt)) k.state c.in-Ok.ensures.applied))

pub returns-in-Err : goal.returns-in-Err
returns-in-Err g c =
    let m = g.M.Handling.meaning c.self.inside.handlers in
    let p = past_of m c.self.inside.ledger in
    let k = c.self.invariant in
    let begun = ap (past_of m) c.in_ok-begin.ensures.room in
    let ready = subst (λ v. Ready (call.Purge c.args.id.now) (seen (past_of (g.M.Handling.meaning v.handlers) v.course))) (sym c.self.view_is) c.requires in
    let comes = purge_comes p c.args.id.now c.in_ok-begin.ensures.begins ready in
    rw (sym c.self.view_is)
    (stopped_base g.D.Cells.honest g.D.Cells.now g.D.Cells.images g.D.Cells.firm g.D.Cells.count g.P.Cells.honest g.P.Cells.now g.P.Cells.images g.P.Cells.firm g.P.Cells.count (call.Purge c.args.id.now) (λ why. answer.Plain (Err why)) p _ _ begun k.legal c.in_ok-begin.ensures.begins (λ why own r. r)
    (record (state_at p) { tables = purged (state_at p).tables c.args.id.now }) c.stop_base.result c.in-Err.fault _ _ _ (base_stop m _ _ c.in-Err.fault _ c.stop_base.ensures) (λ is. c.in-Err.ensures.cause.failed (ap Err is)) refl
    (never_spent_base c.in-Err.fault c.in-Err.ensures.answers) (λ failed. record { event = Purge c.args.id.now; worker = tt; step = comes.step }) refl (never_spent_base c.in-Err.fault c.in-Err.ensures.answers)
    (subst (λ (s : State). Applied {T = Unit {0}} g.D.Cells.honest g.D.Cells.now g.D.Cells.images g.D.Cells.firm c.self.inside.store.base c.purge.new.self.base s.tables (purged s.tables c.args.id.now) (Err c.in-Err.fault)) k.state c.in-Err.ensures.applied))
