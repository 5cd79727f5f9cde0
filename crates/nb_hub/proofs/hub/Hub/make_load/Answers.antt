use Rattle.std.proofs.Common.{◌≡◌, ◌≢◌, ℕ, List, [], Ok, Err, None, false, refl, sym, ap, ◌∙◌, subst, arith}
use Rattle.std.proofs.lemmas.Result.{err_from_is_err_and}
use Rattle.nb_core.specs.declared.call.Answer.TheVariants as answer
use Rattle.nb_core.specs.declared.call.Call.TheVariants as call
use Rattle.nb_core.specs.declared.state.State.{State}
use Rattle.nb_hub.proofs.Went.{kept}
use Rattle.nb_hub.specs.Kept.{AreHeld, held_state}
use Rattle.nb_hub.specs.Ledgers.{past_of, state_at}
use Rattle.nb_base.specs.declared.settings.Settings.{Settings}
use Rattle.nb_core.proofs.Batches.{endpoint_some}
use Rattle.nb_core.specs.Changes.{put}
use Rattle.nb_core.specs.declared.event.Event.TheVariants.{Load}
use Rattle.nb_hub.proofs.Histories.{standing_of}
use Rattle.nb_hub.proofs.Holding.{held_noted}
use Rattle.nb_hub.proofs.Refusals.{refused_post_kept, unspent_ok, unspent_failed}
use Rattle.nb_hub.proofs.Serving.{served_refused, served_post, stopped_post}
use Rattle.nb_hub.proofs.Steps.{load_comes}
use Rattle.nb_hub.proofs.Stopped.{post_stop}
use Rattle.nb_hub.proofs.Tending.{has_room, all_spent, next_unnamed}
use Rattle.nb_hub.specs.declared.ledger.Course.{Course}
use Rattle.nb_queue.specs.Applied.{Applied}
use Rattle.nb_queue.specs.Stands.{with_entry}
use Rattle.nb_hub.proofs.hub.Hub.make_load.Goals as goal

pub returns-in_err-begin : goal.returns-in_err-begin
returns-in_err-begin g c =
    let p = err_from_is_err_and c.from_residual.result c.from_residual.ensures.1 in
    rw (p.1, p.2, sym c.self.view_is)
    (served_refused g.D.Cells.honest g.D.Cells.now g.D.Cells.images g.D.Cells.firm g.D.Cells.count g.P.Cells.honest g.P.Cells.now g.P.Cells.images g.P.Cells.firm g.P.Cells.count (call.Load c.args.envelope) (λ why. answer.Plain (Err why)) _ _ false _ _ c.in_err-begin.field-0.0
    (ap (past_of (g.M.Handling.meaning c.self.inside.handlers)) c.in_err-begin.ensures.room) c.self.invariant.legal c.in_err-begin.ensures.begins (λ why own r. r))

pub put-requires : goal.put-requires
put-requires g c =
    let m = g.M.Handling.meaning c.self.inside.handlers in
    let p = past_of m c.self.inside.ledger in
    let k = c.self.invariant in
    let t = c.self.inside.transport in
    let begun = ap (past_of m) c.in_ok-begin.ensures.room in
    let name : c.settings.result.now.endpoint ≡ c.self.inside.ledger.settings.endpoint = ap (λ (x : Settings). x.endpoint) c.settings.ensures ∙ ap (λ (x : Course). x.settings.endpoint) c.in_ok-begin.ensures.room in
    let standing = standing_of p k.means k.legal in
    subst (λ q. q ≢ []) (sym name) (endpoint_some c.self.inside.ledger.settings)

pub invariant_of-self-in-Ok : goal.invariant_of-self-in-Ok
invariant_of-self-in-Ok g c =
    let m = g.M.Handling.meaning c.self.inside.handlers in
    let p = past_of m c.self.inside.ledger in
    let k = c.self.invariant in
    let t = c.self.inside.transport in
    let begun = ap (past_of m) c.in_ok-begin.ensures.room in
    let name : c.settings.result.now.endpoint ≡ c.self.inside.ledger.settings.endpoint = ap (λ (x : Settings). x.endpoint) c.settings.ensures ∙ ap (λ (x : Course). x.settings.endpoint) c.in_ok-begin.ensures.room in
    let standing = standing_of p k.means k.legal in
    let room = has_room p _ k.state standing (unspent_ok _ _ c.in-Ok.ensures.spent) in
    kept p _ _ (Load c.args.envelope) _ begun (ap (past_of m) c.note.ensures) k.legal (load_comes p c.args.envelope c.in_ok-begin.ensures.begins c.body-body.ensures.sound room)
    _ _ _ _ _ _ _ _ _ _ k refl (ap (λ q. held_state c.self.inside.store.tables q c.self.inside.moment c.self.inside.phases c.self.inside.fails c.self.inside.back c.self.inside.discarded.items) c.in-Ok.ensures.post ∙ (λ i. put (k.state i) (name i) None c.args.envelope)) c.in-Ok.ensures.own
    (subst (AreHeld c.self.inside.phases) (sym c.in-Ok.ensures.ready) (held_noted c.self.inside.phases t.own t.ready t.post.queues.next _ None (next_unnamed p _ k.state standing) k.held))
    k.short (omega arith) c.in-Ok.ensures.cause.later

pub invariant_of-self-in-Err-1 : goal.invariant_of-self-in-Err-1
invariant_of-self-in-Err-1 g c =
    let m = g.M.Handling.meaning c.self.inside.handlers in
    let k = c.self.invariant in
    refused_post_kept (past_of m c.self.inside.ledger) _ _ (ap (past_of m) c.in_ok-begin.ensures.room) k.legal c.in_ok-begin.ensures.begins c.in-Err.fault c.stop_post.result _ _ _ _ _ _ _ _ _
    (post_stop m _ _ c.in-Err.fault _ c.stop_post.ensures) k c.in-Err.ensures.cause (ap (λ q. held_state c.self.inside.store.tables q c.self.inside.moment c.self.inside.phases c.self.inside.fails c.self.inside.back c.self.inside.discarded.items) c.in-Err.ensures.post) c.in-Err.ensures.own c.in-Err.ensures.ready

pub returns-in-Ok : goal.returns-in-Ok
returns-in-Ok g c =
    let m = g.M.Handling.meaning c.self.inside.handlers in
    let p = past_of m c.self.inside.ledger in
    let k = c.self.invariant in
    let t = c.self.inside.transport in
    let begun = ap (past_of m) c.in_ok-begin.ensures.room in
    let name : c.settings.result.now.endpoint ≡ c.self.inside.ledger.settings.endpoint = ap (λ (x : Settings). x.endpoint) c.settings.ensures ∙ ap (λ (x : Course). x.settings.endpoint) c.in_ok-begin.ensures.room in
    let standing = standing_of p k.means k.legal in
    let room = has_room p _ k.state standing (unspent_ok _ _ c.in-Ok.ensures.spent) in
    rw (sym c.self.view_is)
    (served_post g.D.Cells.honest g.D.Cells.now g.D.Cells.images g.D.Cells.firm g.D.Cells.count g.P.Cells.honest g.P.Cells.now g.P.Cells.images g.P.Cells.firm g.P.Cells.count (call.Load c.args.envelope) (answer.Plain (Ok tt)) p _ _ (Load c.args.envelope) _
    begun (ap (past_of m) c.note.ensures) k.legal (load_comes p c.args.envelope c.in_ok-begin.ensures.begins c.body-body.ensures.sound room) refl refl _ _ _ tt refl
    (subst (λ (x : State × List ℕ). Applied g.P.Cells.honest g.P.Cells.now g.P.Cells.images g.P.Cells.firm t.post.cells c.put.new.self.post.cells x.0.post (with_entry x.0.post (record { queue = x.1; due = None; envelope = c.args.envelope })) (Ok tt)) (λ i. (k.state i, name i)) c.in-Ok.ensures.applied))

pub returns-in-Err : goal.returns-in-Err
returns-in-Err g c =
    let m = g.M.Handling.meaning c.self.inside.handlers in
    let p = past_of m c.self.inside.ledger in
    let k = c.self.invariant in
    let t = c.self.inside.transport in
    let begun = ap (past_of m) c.in_ok-begin.ensures.room in
    let name : c.settings.result.now.endpoint ≡ c.self.inside.ledger.settings.endpoint = ap (λ (x : Settings). x.endpoint) c.settings.ensures ∙ ap (λ (x : Course). x.settings.endpoint) c.in_ok-begin.ensures.room in
    let standing = standing_of p k.means k.legal in
    rw (sym c.self.view_is)
    (stopped_post g.D.Cells.honest g.D.Cells.now g.D.Cells.images g.D.Cells.firm g.D.Cells.count g.P.Cells.honest g.P.Cells.now g.P.Cells.images g.P.Cells.firm g.P.Cells.count (call.Load c.args.envelope) (λ why. answer.Plain (Err why)) p _ _ begun k.legal c.in_ok-begin.ensures.begins (λ why own r. r)
    (put (state_at p) c.self.inside.ledger.settings.endpoint None c.args.envelope) c.stop_post.result c.in-Err.fault _ _ _ (post_stop m _ _ c.in-Err.fault _ c.stop_post.ensures) (λ is. c.in-Err.ensures.cause.failed (ap Err is)) refl
    (λ spent. all_spent p _ k.state standing (c.in-Err.ensures.spent.0 (ap Err spent)))
    (λ failed. record { event = Load c.args.envelope; worker = tt; step = (load_comes p c.args.envelope c.in_ok-begin.ensures.begins c.body-body.ensures.sound (has_room p _ k.state standing (unspent_failed _ _ c.in-Err.ensures.spent failed))).step }) refl
    (subst (λ (x : State × List ℕ). Applied {T = Unit {0}} g.P.Cells.honest g.P.Cells.now g.P.Cells.images g.P.Cells.firm t.post.cells c.put.new.self.post.cells x.0.post (with_entry x.0.post (record { queue = x.1; due = None; envelope = c.args.envelope })) (Err c.in-Err.fault)) (λ i. (k.state i, name i)) c.in-Err.ensures.applied))
