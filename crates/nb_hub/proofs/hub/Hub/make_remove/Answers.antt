use Rattle.std.proofs.Common.{ℕ, false, Ok, Err, refl, sym, ap, ◌∙◌, subst, arith}
use Rattle.std.proofs.lemmas.Result.{err_from_is_err_and}
use Rattle.std.specs.FinMap as map
use Rattle.std.specs.Prelude.{is_some}
use Rattle.nb_core.specs.Calls.{Ready}
use Rattle.nb_core.specs.declared.call.Answer.TheVariants as answer
use Rattle.nb_core.specs.declared.call.Call.TheVariants as call
use Rattle.nb_core.specs.declared.event.Event.TheVariants.{Remove}
use Rattle.nb_core.specs.declared.phase.Phase.TheVariants.{Done}
use Rattle.nb_hub.proofs.Histories.{standing_of}
use Rattle.nb_hub.proofs.Leases.{done_at, stands, own_queue, is_idle, held_with, held_out, remove_comes}
use Rattle.nb_hub.proofs.Refusals.{fault_of_put, refused_post_kept}
use Rattle.nb_hub.proofs.Serving.{served_refused}
use Rattle.nb_hub.proofs.Stopped.{post_stop}
use Rattle.nb_hub.proofs.Storing.{served_put, change_refused}
use Rattle.nb_hub.proofs.Went.{kept, kept_room}
use Rattle.nb_hub.specs.Indexed.{queue_at}
use Rattle.nb_hub.specs.Kept.{seen}
use Rattle.nb_hub.specs.Ledgers.{past_of}
use Rattle.nb_hub.proofs.hub.Hub.make_remove.Goals as goal

pub invariant_of-self : goal.invariant_of-self
invariant_of-self g c =
    let m = g.M.Handling.meaning c.self.inside.handlers in
    kept_room (past_of m c.self.inside.ledger) _ false _ _ _ _ _ (ap (past_of m) c.in_err-begin.ensures.room) c.self.invariant

pub returns-in_err-begin : goal.returns-in_err-begin
returns-in_err-begin g c =
    let e = err_from_is_err_and c.from_residual.result c.from_residual.ensures.1 in
    rw (e.1, e.2, sym c.self.view_is)
    (served_refused g.D.Cells.honest g.D.Cells.now g.D.Cells.images g.D.Cells.firm g.D.Cells.count g.P.Cells.honest g.P.Cells.now g.P.Cells.images g.P.Cells.firm g.P.Cells.count (call.Remove c.args.w) (λ why. answer.Plain (Err why)) _ _ false _ _ c.in_err-begin.field-0.0
    (ap (past_of (g.M.Handling.meaning c.self.inside.handlers)) c.in_err-begin.ensures.room) c.self.invariant.legal c.in_err-begin.ensures.begins (λ why own r. r))

pub done-number-requires : goal.done-number-requires
done-number-requires g c =
    let p = past_of (g.M.Handling.meaning c.self.inside.handlers) c.self.inside.ledger in
    let k = c.self.invariant in
    let ready = subst (λ v. Ready (call.Remove c.args.w) (seen (past_of (g.M.Handling.meaning v.handlers) v.course))) (sym c.self.view_is) c.requires in
    done_at p _ k.state (standing_of p k.means k.legal) c.args.w ready.1

pub remove-requires : goal.remove-requires
remove-requires g c =
    let p = past_of (g.M.Handling.meaning c.self.inside.handlers) c.self.inside.ledger in
    let k = c.self.invariant in
    ap is_some (stands p _ k.state (standing_of p k.means k.legal) c.args.w c.done-number.result (Done c.done-number.result) c.done-number.ensures refl).there

pub stop_post-requires-clause-fault : goal.stop_post-requires-clause-fault
stop_post-requires-clause-fault g c = fault_of_put c.in-Err.fault c.in-Err.ensures.answers

pub invariant_of-self-in-Ok : goal.invariant_of-self-in-Ok
invariant_of-self-in-Ok g c =
    let m = g.M.Handling.meaning c.self.inside.handlers in
    let p = past_of m c.self.inside.ledger in
    let k = c.self.invariant in
    let st = standing_of p k.means k.legal in
    let ready = subst (λ v. Ready (call.Remove c.args.w) (seen (past_of (g.M.Handling.meaning v.handlers) v.course))) (sym c.self.view_is) c.requires in
    let n = c.done-number.result in
    let at = c.done-number.ensures in
    let comes = remove_comes p _ k.state st c.args.w n c.in_ok-begin.ensures.begins ready at in
    let phases = c.remove-in-Ok-2.ensures ∙ ap (λ (v : ℕ). map.remove c.self.inside.phases v) c.from.ensures ∙ is_idle c.self.inside.phases c.args.w in
    kept p _ _ (Remove c.args.w) _ (ap (past_of m) c.in_ok-begin.ensures.room) (ap (past_of m) c.note.ensures) k.legal comes
    _ _ _ _ _ _ _ _ _ _ k refl (held_with _ _ _ _ _ _ _ _ _ _ c.in-Ok.ensures.post phases c.remove-in-Ok.ensures) c.in-Ok.ensures.own
    (held_out _ _ c.self.inside.transport.own _ _ c.args.w n (queue_at c.self.inside.transport.post.queues n) (Done n) at refl (own_queue p _ k.state st c.args.w n (Done n) _ k.own_is at refl) phases c.in-Ok.ensures.ready k.held)
    k.short (omega arith) c.in-Ok.ensures.cause.later

pub invariant_of-self-in-Err : goal.invariant_of-self-in-Err
invariant_of-self-in-Err g c =
    let m = g.M.Handling.meaning c.self.inside.handlers in
    let k = c.self.invariant in
    refused_post_kept (past_of m c.self.inside.ledger) _ _ (ap (past_of m) c.in_ok-begin.ensures.room) k.legal c.in_ok-begin.ensures.begins _ _ _ _ _ _ _ _ _ _ _ (post_stop m _ _ _ _ c.stop_post.ensures) k c.in-Err.ensures.cause
    (held_with _ _ _ _ _ _ _ _ _ _ c.in-Err.ensures.post refl refl) c.in-Err.ensures.own c.in-Err.ensures.ready

pub returns-in-Ok : goal.returns-in-Ok
returns-in-Ok g c =
    let m = g.M.Handling.meaning c.self.inside.handlers in
    let p = past_of m c.self.inside.ledger in
    let k = c.self.invariant in
    let ready = subst (λ v. Ready (call.Remove c.args.w) (seen (past_of (g.M.Handling.meaning v.handlers) v.course))) (sym c.self.view_is) c.requires in
    let comes = remove_comes p _ k.state (standing_of p k.means k.legal) c.args.w _ c.in_ok-begin.ensures.begins ready c.done-number.ensures in
    rw (sym c.self.view_is)
    (served_put g.D.Cells.honest g.D.Cells.now g.D.Cells.images g.D.Cells.firm g.D.Cells.count g.P.Cells.honest g.P.Cells.now g.P.Cells.images g.P.Cells.firm g.P.Cells.count (call.Remove c.args.w) (answer.Plain (Ok tt)) p _ _ _ _ (Remove c.args.w) k.state
    (ap (past_of m) c.in_ok-begin.ensures.room) (ap (past_of m) c.note.ensures) k.legal comes refl refl _ _ _ _ refl c.in-Ok.ensures.applied)

pub returns-in-Err : goal.returns-in-Err
returns-in-Err g c =
    let m = g.M.Handling.meaning c.self.inside.handlers in
    let p = past_of m c.self.inside.ledger in
    let k = c.self.invariant in
    let ready = subst (λ v. Ready (call.Remove c.args.w) (seen (past_of (g.M.Handling.meaning v.handlers) v.course))) (sym c.self.view_is) c.requires in
    let comes = remove_comes p _ k.state (standing_of p k.means k.legal) c.args.w _ c.in_ok-begin.ensures.begins ready c.done-number.ensures in
    rw (sym c.self.view_is)
    (change_refused g.D.Cells.honest g.D.Cells.now g.D.Cells.images g.D.Cells.firm g.D.Cells.count g.P.Cells.honest g.P.Cells.now g.P.Cells.images g.P.Cells.firm g.P.Cells.count (call.Remove c.args.w) (λ why. answer.Plain (Err why)) p _ _ _ _ (Remove c.args.w) _ k.state
    (ap (past_of m) c.in_ok-begin.ensures.room) k.legal c.in_ok-begin.ensures.begins (λ why own r. r) _ _ _ _ (post_stop m _ _ _ _ c.stop_post.ensures) (λ is. c.in-Err.ensures.cause.failed (ap Err is)) refl c.in-Err.ensures.answers comes refl c.in-Err.ensures.applied)
