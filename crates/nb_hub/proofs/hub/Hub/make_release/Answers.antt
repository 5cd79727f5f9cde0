use Rattle.std.proofs.Common.{Ok, Err, false, refl, sym, ap, ◌∙◌, subst, arith}
use Rattle.std.proofs.lemmas.Result.{err_from_is_err_and}
use Rattle.nb_core.specs.Calls.{Ready}
use Rattle.nb_core.specs.declared.call.Answer.TheVariants as answer
use Rattle.nb_core.specs.declared.call.Call.TheVariants as call
use Rattle.nb_core.specs.declared.state.State.{State}
use Rattle.nb_hub.proofs.Went.{kept}
use Rattle.nb_hub.specs.Kept.{AreHeld, held_state, seen}
use Rattle.nb_hub.specs.Ledgers.{past_of, state_at}
use Rattle.nb_core.specs.declared.event.Event.TheVariants.{Release}
use Rattle.nb_hub.proofs.Refusals.{refused_post_kept, never_spent, fault_of_put}
use Rattle.nb_hub.proofs.Serving.{served_refused, served_post, stopped_post}
use Rattle.nb_hub.proofs.Steps.{release_comes}
use Rattle.nb_hub.proofs.Stopped.{post_stop}
use Rattle.nb_hub.proofs.Tending.{delayed_there, held_released}
use Rattle.nb_queue.specs.Applied.{Applied}
use Rattle.nb_queue.specs.Stands.{released}
use Rattle.nb_hub.proofs.hub.Hub.make_release.Goals as goal

pub returns-in_err-begin : goal.returns-in_err-begin
returns-in_err-begin g c =
    let p = err_from_is_err_and c.from_residual.result c.from_residual.ensures.1 in
    rw (p.1, p.2, sym c.self.view_is)
    (served_refused g.D.Cells.honest g.D.Cells.now g.D.Cells.images g.D.Cells.firm g.D.Cells.count g.P.Cells.honest g.P.Cells.now g.P.Cells.images g.P.Cells.firm g.P.Cells.count (call.Release c.args.number) (λ why. answer.Plain (Err why)) _ _ false _ _ c.in_err-begin.field-0.0
    (ap (past_of (g.M.Handling.meaning c.self.inside.handlers)) c.in_err-begin.ensures.room) c.self.invariant.legal c.in_err-begin.ensures.begins (λ why own r. r))

pub release-requires : goal.release-requires
release-requires g c =
    let m = g.M.Handling.meaning c.self.inside.handlers in
    let p = past_of m c.self.inside.ledger in
    let k = c.self.invariant in
    let t = c.self.inside.transport in
    let begun = ap (past_of m) c.in_ok-begin.ensures.room in
    let ready = subst (λ v. Ready (call.Release c.args.number) (seen (past_of (g.M.Handling.meaning v.handlers) v.course))) (sym c.self.view_is) c.requires in
    delayed_there p _ k.state c.args.number ready

pub stop_post-requires-clause-fault : goal.stop_post-requires-clause-fault
stop_post-requires-clause-fault g c = fault_of_put c.in-Err.fault c.in-Err.ensures.answers

pub invariant_of-self-in-Ok : goal.invariant_of-self-in-Ok
invariant_of-self-in-Ok g c =
    let m = g.M.Handling.meaning c.self.inside.handlers in
    let p = past_of m c.self.inside.ledger in
    let k = c.self.invariant in
    let t = c.self.inside.transport in
    let begun = ap (past_of m) c.in_ok-begin.ensures.room in
    let ready = subst (λ v. Ready (call.Release c.args.number) (seen (past_of (g.M.Handling.meaning v.handlers) v.course))) (sym c.self.view_is) c.requires in
    let it = delayed_there p _ k.state c.args.number ready in
    kept p _ _ (Release c.args.number) _ begun (ap (past_of m) c.note.ensures) k.legal (release_comes p c.args.number c.in_ok-begin.ensures.begins ready)
    _ _ _ _ _ _ _ _ _ _ k refl (ap (λ q. held_state c.self.inside.store.tables q c.self.inside.moment c.self.inside.phases c.self.inside.fails c.self.inside.back c.self.inside.discarded.items) c.in-Ok.ensures.post ∙ ap (λ (s : State). record s { post = released s.post c.args.number }) k.state) c.in-Ok.ensures.own
    (subst (AreHeld c.self.inside.phases) (sym c.in-Ok.ensures.ready) (held_released c.self.inside.phases t.own t.post.queues t.ready c.args.number it.0 t.indexed it.1 it.2 k.held))
    k.short (omega arith) c.in-Ok.ensures.cause.later

pub invariant_of-self-in-Err : goal.invariant_of-self-in-Err
invariant_of-self-in-Err g c =
    let m = g.M.Handling.meaning c.self.inside.handlers in
    let k = c.self.invariant in
    refused_post_kept (past_of m c.self.inside.ledger) _ _ (ap (past_of m) c.in_ok-begin.ensures.room) k.legal c.in_ok-begin.ensures.begins c.in-Err.fault c.stop_post.result _ _ _ _ _ _ _ _ _
    (post_stop m _ _ c.in-Err.fault _ c.stop_post.ensures) k c.in-Err.ensures.cause (ap (λ q. held_state c.self.inside.store.tables q c.self.inside.moment c.self.inside.phases c.self.inside.fails c.self.inside.back c.self.inside.discarded.items) c.in-Err.ensures.post) c.in-Err.ensures.own c.in-Err.ensures.ready

pub returns-in-Ok : goal.returns-in-Ok
returns-in-Ok g c =
    let m = g.M.Handling.meaning c.self.inside.handlers in
    let p = past_of m c.self.inside.ledger in
    let k = c.self.invariant in
    let t = c.self.inside.transport in
    let begun = ap (past_of m) c.in_ok-begin.ensures.room in
    let ready = subst (λ v. Ready (call.Release c.args.number) (seen (past_of (g.M.Handling.meaning v.handlers) v.course))) (sym c.self.view_is) c.requires in
    rw (sym c.self.view_is)
    (served_post g.D.Cells.honest g.D.Cells.now g.D.Cells.images g.D.Cells.firm g.D.Cells.count g.P.Cells.honest g.P.Cells.now g.P.Cells.images g.P.Cells.firm g.P.Cells.count (call.Release c.args.number) (answer.Plain (Ok tt)) p _ _ (Release c.args.number) _
    begun (ap (past_of m) c.note.ensures) k.legal (release_comes p c.args.number c.in_ok-begin.ensures.begins ready) refl refl _ _ _ tt refl
    (subst (λ (s : State). Applied g.P.Cells.honest g.P.Cells.now g.P.Cells.images g.P.Cells.firm t.post.cells c.release.new.self.post.cells s.post (released s.post c.args.number) (Ok tt)) k.state c.in-Ok.ensures.applied))

pub returns-in-Err : goal.returns-in-Err
returns-in-Err g c =
    let m = g.M.Handling.meaning c.self.inside.handlers in
    let p = past_of m c.self.inside.ledger in
    let k = c.self.invariant in
    let t = c.self.inside.transport in
    let begun = ap (past_of m) c.in_ok-begin.ensures.room in
    let ready = subst (λ v. Ready (call.Release c.args.number) (seen (past_of (g.M.Handling.meaning v.handlers) v.course))) (sym c.self.view_is) c.requires in
    let comes = release_comes p c.args.number c.in_ok-begin.ensures.begins ready in
    rw (sym c.self.view_is)
    (stopped_post g.D.Cells.honest g.D.Cells.now g.D.Cells.images g.D.Cells.firm g.D.Cells.count g.P.Cells.honest g.P.Cells.now g.P.Cells.images g.P.Cells.firm g.P.Cells.count (call.Release c.args.number) (λ why. answer.Plain (Err why)) p _ _ begun k.legal c.in_ok-begin.ensures.begins (λ why own r. r)
    (record (state_at p) { post = released (state_at p).post c.args.number }) c.stop_post.result c.in-Err.fault _ _ _ (post_stop m _ _ c.in-Err.fault _ c.stop_post.ensures) (λ is. c.in-Err.ensures.cause.failed (ap Err is)) refl
    (never_spent c.in-Err.fault c.in-Err.ensures.answers) (λ failed. record { event = Release c.args.number; worker = tt; step = comes.step }) refl
    (subst (λ (s : State). Applied {T = Unit {0}} g.P.Cells.honest g.P.Cells.now g.P.Cells.images g.P.Cells.firm t.post.cells c.release.new.self.post.cells s.post (released s.post c.args.number) (Err c.in-Err.fault)) k.state c.in-Err.ensures.applied))
