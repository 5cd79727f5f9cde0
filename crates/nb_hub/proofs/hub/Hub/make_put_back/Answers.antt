use Rattle.std.proofs.Common.{◌≡◌, ◌≢◌, [], Some, Ok, Err, true, None, false, refl, sym, ap, ◌∙◌, subst, arith}
use Rattle.std.proofs.lemmas.Result.{err_from_is_err_and}
use Rattle.nb_core.specs.Calls.{Ready}
use Rattle.nb_core.specs.declared.call.Answer.TheVariants as answer
use Rattle.nb_core.specs.declared.call.Call.TheVariants as call
use Rattle.nb_core.specs.declared.state.State.{State}
use Rattle.nb_hub.proofs.Went.{kept}
use Rattle.nb_hub.specs.Kept.{AreHeld, held_state, seen}
use Rattle.nb_hub.specs.Ledgers.{past_of, state_at}
use Rattle.std.specs.FinMap as map
use Rattle.std.specs.Option.{is_some, option_copied}
use Rattle.nb_core.specs.Changes.{put}
use Rattle.nb_core.specs.Standing.{entry}
use Rattle.nb_core.specs.declared.event.Event.TheVariants.{PutBack}
use Rattle.nb_hub.proofs.Histories.{standing_of}
use Rattle.nb_hub.proofs.Holding.{held_noted}
use Rattle.nb_hub.proofs.Marks.{is_some-map}
use Rattle.nb_hub.proofs.Refusals.{refused_post_kept, unspent_ok, unspent_failed}
use Rattle.nb_hub.proofs.Serving.{served_refused, served_quietly, served_post, stopped_post}
use Rattle.nb_hub.proofs.Steps.{put_back_comes, returned_is, some_returned}
use Rattle.nb_hub.proofs.Stopped.{post_stop}
use Rattle.nb_hub.proofs.Tending.{has_room, all_spent, next_unnamed, queue_named}
use Rattle.nb_queue.specs.Applied.{Applied}
use Rattle.nb_queue.specs.Stands.{with_entry}
use Rattle.nb_recover.specs.declared.returned.Returned.{Returned}
use Rattle.nb_hub.proofs.hub.Hub.make_put_back.Goals as goal

pub returns-in_err-begin : goal.returns-in_err-begin
returns-in_err-begin g c =
    let p = err_from_is_err_and c.from_residual.result c.from_residual.ensures.1 in
    rw (p.1, p.2, sym c.self.view_is)
    (served_refused g.D.Cells.honest g.D.Cells.now g.D.Cells.images g.D.Cells.firm g.D.Cells.count g.P.Cells.honest g.P.Cells.now g.P.Cells.images g.P.Cells.firm g.P.Cells.count (call.PutBack c.args.number) (λ why. answer.Plain (Err why)) _ _ false _ _ c.in_err-begin.field-0.0
    (ap (past_of (g.M.Handling.meaning c.self.inside.handlers)) c.in_err-begin.ensures.room) c.self.invariant.legal c.in_err-begin.ensures.begins (λ why own r. r))

pub returns-in_err-returned : goal.returns-in_err-returned
returns-in_err-returned g c =
    let p = err_from_is_err_and c.from_residual-in_err-returned.result c.from_residual-in_err-returned.ensures.1 in
    rw (p.1, p.2, sym c.self.view_is)
    (served_quietly g.D.Cells.honest g.D.Cells.now g.D.Cells.images g.D.Cells.firm g.D.Cells.count g.P.Cells.honest g.P.Cells.now g.P.Cells.images g.P.Cells.firm g.P.Cells.count (call.PutBack c.args.number) _ _ _ true _ _
    (ap (past_of (g.M.Handling.meaning c.self.inside.handlers)) c.in_ok-begin.ensures.room) c.self.invariant.legal (refl, c.in_ok-begin.ensures.begins))

pub returns-in_err-insert : goal.returns-in_err-insert
returns-in_err-insert g c =
    let p = err_from_is_err_and c.from_residual-in_err-insert.result c.from_residual-in_err-insert.ensures.1 in
    rw (p.1, p.2, sym c.self.view_is)
    (served_quietly g.D.Cells.honest g.D.Cells.now g.D.Cells.images g.D.Cells.firm g.D.Cells.count g.P.Cells.honest g.P.Cells.now g.P.Cells.images g.P.Cells.firm g.P.Cells.count (call.PutBack c.args.number) _ _ _ true _ _
    (ap (past_of (g.M.Handling.meaning c.self.inside.handlers)) c.in_ok-begin.ensures.room) c.self.invariant.legal (refl, c.in_ok-begin.ensures.begins))

pub unreachable-requires : goal.unreachable-requires
unreachable-requires g c =
    let m = g.M.Handling.meaning c.self.inside.handlers in
    let p = past_of m c.self.inside.ledger in
    let k = c.self.invariant in
    let t = c.self.inside.transport in
    let begun = ap (past_of m) c.in_ok-begin.ensures.room in
    let ready = subst (λ v. Ready (call.PutBack c.args.number) (seen (past_of (g.M.Handling.meaning v.handlers) v.course))) (sym c.self.view_is) c.requires in
    let e = c.unwrap-entry.result.now in
    let there : map.get t.post.queues.entries c.args.number ≡ Some e = sym c.entry.ensures ∙ ap option_copied c.unwrap-entry.ensures in
    let back = some_returned e.envelope (queue_named p _ k.state c.args.number e there ready) in
    c.in_default.not-Some back.0 (c.in_ok-returned.ensures ∙ back.1)

pub put-requires : goal.put-requires
put-requires g c =
    let m = g.M.Handling.meaning c.self.inside.handlers in
    let p = past_of m c.self.inside.ledger in
    let k = c.self.invariant in
    let t = c.self.inside.transport in
    let begun = ap (past_of m) c.in_ok-begin.ensures.room in
    let ready = subst (λ v. Ready (call.PutBack c.args.number) (seen (past_of (g.M.Handling.meaning v.handlers) v.course))) (sym c.self.view_is) c.requires in
    let e = c.unwrap-entry.result.now in
    let there : map.get t.post.queues.entries c.args.number ≡ Some e = sym c.entry.ensures ∙ ap option_copied c.unwrap-entry.ensures in
    let x = c.in-Some.returned in
    let back = returned_is e.envelope x (queue_named p _ k.state c.args.number e there ready) (sym c.in-Some.is ∙ c.in_ok-returned.ensures) in
    subst (λ (y : Returned). y.queue ≢ []) (sym back) (queue_named p _ k.state c.args.number e there ready)

pub invariant_of-self-in-Ok : goal.invariant_of-self-in-Ok
invariant_of-self-in-Ok g c =
    let m = g.M.Handling.meaning c.self.inside.handlers in
    let p = past_of m c.self.inside.ledger in
    let k = c.self.invariant in
    let t = c.self.inside.transport in
    let begun = ap (past_of m) c.in_ok-begin.ensures.room in
    let ready = subst (λ v. Ready (call.PutBack c.args.number) (seen (past_of (g.M.Handling.meaning v.handlers) v.course))) (sym c.self.view_is) c.requires in
    let e = c.unwrap-entry.result.now in
    let there : map.get t.post.queues.entries c.args.number ≡ Some e = sym c.entry.ensures ∙ ap option_copied c.unwrap-entry.ensures in
    let x = c.in-Some.returned in
    let back = returned_is e.envelope x (queue_named p _ k.state c.args.number e there ready) (sym c.in-Some.is ∙ c.in_ok-returned.ensures) in
    kept p _ _ (PutBack c.args.number) _ begun (ap (past_of m) c.note.ensures) k.legal (put_back_comes p c.args.number e x c.in_ok-begin.ensures.begins (has_room p _ k.state (standing_of p k.means k.legal) (unspent_ok _ _ c.in-Ok.ensures.spent)) ready (ap (λ (y : State). entry y c.args.number) (sym k.state) ∙ there) back)
    _ _ _ _ _ _ _ _ _ _ k refl
    ((λ i. held_state c.self.inside.store.tables (c.in-Ok.ensures.post i) c.self.inside.moment c.self.inside.phases c.self.inside.fails (c.in_ok-insert.ensures.ok i) c.self.inside.discarded.items) ∙ ap (λ (s : State). record (put s x.queue None x.envelope) { back = map.insert s.back c.args.number tt }) k.state) c.in-Ok.ensures.own
    (subst (AreHeld c.self.inside.phases) (sym c.in-Ok.ensures.ready) (held_noted c.self.inside.phases t.own t.ready t.post.queues.next _ None (next_unnamed p _ k.state (standing_of p k.means k.legal)) k.held))
    k.short (omega arith) c.in-Ok.ensures.cause.later

pub invariant_of-self-in-Err : goal.invariant_of-self-in-Err
invariant_of-self-in-Err g c =
    let m = g.M.Handling.meaning c.self.inside.handlers in
    let k = c.self.invariant in
    let was = c.is_some-was_back.ensures ∙ is_some-map (λ y. y.now) c.get.result ∙ ap is_some c.get.ensures in
    let back = c.unmark.ensures c.self.inside.back was c.in_ok-insert.ensures.ok in
    refused_post_kept (past_of m c.self.inside.ledger) _ _ (ap (past_of m) c.in_ok-begin.ensures.room) k.legal c.in_ok-begin.ensures.begins c.in-Err.fault c.stop_post.result _ _ _ _ _ _ _ _ _
    (post_stop m _ _ c.in-Err.fault _ c.stop_post.ensures) k c.in-Err.ensures.cause (λ i. held_state c.self.inside.store.tables (c.in-Err.ensures.post i) c.self.inside.moment c.self.inside.phases c.self.inside.fails (back i) c.self.inside.discarded.items) c.in-Err.ensures.own c.in-Err.ensures.ready

pub returns-in-Ok : goal.returns-in-Ok
returns-in-Ok g c =
    let m = g.M.Handling.meaning c.self.inside.handlers in
    let p = past_of m c.self.inside.ledger in
    let k = c.self.invariant in
    let t = c.self.inside.transport in
    let begun = ap (past_of m) c.in_ok-begin.ensures.room in
    let ready = subst (λ v. Ready (call.PutBack c.args.number) (seen (past_of (g.M.Handling.meaning v.handlers) v.course))) (sym c.self.view_is) c.requires in
    let e = c.unwrap-entry.result.now in
    let there : map.get t.post.queues.entries c.args.number ≡ Some e = sym c.entry.ensures ∙ ap option_copied c.unwrap-entry.ensures in
    let x = c.in-Some.returned in
    let back = returned_is e.envelope x (queue_named p _ k.state c.args.number e there ready) (sym c.in-Some.is ∙ c.in_ok-returned.ensures) in
    rw (sym c.self.view_is)
    (served_post g.D.Cells.honest g.D.Cells.now g.D.Cells.images g.D.Cells.firm g.D.Cells.count g.P.Cells.honest g.P.Cells.now g.P.Cells.images g.P.Cells.firm g.P.Cells.count (call.PutBack c.args.number) (answer.Plain (Ok tt)) p _ _ (PutBack c.args.number) _
    begun (ap (past_of m) c.note.ensures) k.legal (put_back_comes p c.args.number e x c.in_ok-begin.ensures.begins (has_room p _ k.state (standing_of p k.means k.legal) (unspent_ok _ _ c.in-Ok.ensures.spent)) ready (ap (λ (y : State). entry y c.args.number) (sym k.state) ∙ there) back) refl refl _ _ _ tt refl
    (subst (λ (s : State). Applied g.P.Cells.honest g.P.Cells.now g.P.Cells.images g.P.Cells.firm t.post.cells c.put.new.self.post.cells s.post (with_entry s.post (record { queue = x.queue; due = None; envelope = x.envelope })) (Ok tt)) k.state c.in-Ok.ensures.applied))

pub returns : goal.returns
returns g c =
    let m = g.M.Handling.meaning c.self.inside.handlers in
    let p = past_of m c.self.inside.ledger in
    let k = c.self.invariant in
    let t = c.self.inside.transport in
    let begun = ap (past_of m) c.in_ok-begin.ensures.room in
    let ready = subst (λ v. Ready (call.PutBack c.args.number) (seen (past_of (g.M.Handling.meaning v.handlers) v.course))) (sym c.self.view_is) c.requires in
    let e = c.unwrap-entry.result.now in
    let there : map.get t.post.queues.entries c.args.number ≡ Some e = sym c.entry.ensures ∙ ap option_copied c.unwrap-entry.ensures in
    let x = c.in-Some.returned in
    let back = returned_is e.envelope x (queue_named p _ k.state c.args.number e there ready) (sym c.in-Some.is ∙ c.in_ok-returned.ensures) in
    rw (sym c.self.view_is)
    (stopped_post g.D.Cells.honest g.D.Cells.now g.D.Cells.images g.D.Cells.firm g.D.Cells.count g.P.Cells.honest g.P.Cells.now g.P.Cells.images g.P.Cells.firm g.P.Cells.count (call.PutBack c.args.number) (λ why. answer.Plain (Err why)) p _ _ begun k.legal c.in_ok-begin.ensures.begins (λ why own r. r)
    (record (put (state_at p) x.queue None x.envelope) { back = map.insert (state_at p).back c.args.number tt }) c.stop_post.result c.in-Err.fault _ _ _ (post_stop m _ _ c.in-Err.fault _ c.stop_post.ensures) (λ is. c.in-Err.ensures.cause.failed (ap Err is)) refl
    (λ spent. all_spent p _ k.state (standing_of p k.means k.legal) (c.in-Err.ensures.spent.0 (ap Err spent)))
    (λ failed. record { event = PutBack c.args.number; worker = tt; step = (put_back_comes p c.args.number e x c.in_ok-begin.ensures.begins (has_room p _ k.state (standing_of p k.means k.legal) (unspent_failed _ _ c.in-Err.ensures.spent failed)) ready (ap (λ (y : State). entry y c.args.number) (sym k.state) ∙ there) back).step }) refl
    (subst (λ (s : State). Applied {T = Unit {0}} g.P.Cells.honest g.P.Cells.now g.P.Cells.images g.P.Cells.firm t.post.cells c.put.new.self.post.cells s.post (with_entry s.post (record { queue = x.queue; due = None; envelope = x.envelope })) (Err c.in-Err.fault)) k.state c.in-Err.ensures.applied))
