use Rattle.std.proofs.Common.{false, Ok, Err, refl, sym, ap, subst, arith}
use Rattle.std.proofs.lemmas.Result.{err_from_is_err_and}
use Rattle.nb_core.specs.Calls.{Ready}
use Rattle.nb_core.specs.Standing.{number_of}
use Rattle.nb_core.specs.declared.call.Answer.TheVariants as answer
use Rattle.nb_core.specs.declared.call.Call.TheVariants as call
use Rattle.nb_core.specs.declared.event.Event.TheVariants.{Send}
use Rattle.nb_core.specs.declared.phase.Phase.TheVariants.{Sending}
use Rattle.nb_hub.proofs.Histories.{standing_of}
use Rattle.nb_hub.proofs.Leases.{sends_at, left_of, op_can, next_low, has_room, held_with, held_put, send_comes}
use Rattle.nb_hub.proofs.Refusals.{refused_post_kept}
use Rattle.nb_hub.proofs.Storing.{served_put, put_refused}
use Rattle.nb_hub.proofs.Tending.{next_unnamed}
use Rattle.nb_hub.proofs.Serving.{served_refused}
use Rattle.nb_hub.proofs.Stopped.{post_stop}
use Rattle.nb_hub.proofs.Went.{kept, kept_room}
use Rattle.nb_hub.specs.Kept.{seen}
use Rattle.nb_hub.specs.Ledgers.{past_of}
use Rattle.nb_hub.proofs.hub.Hub.make_send.Goals as goal

pub invariant_of-self : goal.invariant_of-self
invariant_of-self g c =
    let m = g.M.Handling.meaning c.self.inside.handlers in
    kept_room (past_of m c.self.inside.ledger) _ false _ _ _ _ _ (ap (past_of m) c.in_err-begin.ensures.room) c.self.invariant

pub returns-in_err-begin : goal.returns-in_err-begin
returns-in_err-begin g c =
    let e = err_from_is_err_and c.from_residual.result c.from_residual.ensures.1 in
    rw (e.1, e.2, sym c.self.view_is)
    (served_refused g.D.Cells.honest g.D.Cells.now g.D.Cells.images g.D.Cells.firm g.D.Cells.count g.P.Cells.honest g.P.Cells.now g.P.Cells.images g.P.Cells.firm g.P.Cells.count (call.Send c.args.w) (λ why. answer.Plain (Err why)) _ _ false _ _ c.in_err-begin.field-0.0
    (ap (past_of (g.M.Handling.meaning c.self.inside.handlers)) c.in_err-begin.ensures.room) c.self.invariant.legal c.in_err-begin.ensures.begins (λ why own r. r))

pub batch_of-batch-requires : goal.batch_of-batch-requires
batch_of-batch-requires g c =
    let p = past_of (g.M.Handling.meaning c.self.inside.handlers) c.self.inside.ledger in
    let k = c.self.invariant in
    let ready = subst (λ v. Ready (call.Send c.args.w) (seen (past_of (g.M.Handling.meaning v.handlers) v.course))) (sym c.self.view_is) c.requires in
    sends_at p _ k.state (standing_of p k.means k.legal) c.args.w ready.1.0 ready.1.2

pub at-op-requires : goal.at-op-requires
at-op-requires g c =
    let p = past_of (g.M.Handling.meaning c.self.inside.handlers) c.self.inside.ledger in
    let k = c.self.invariant in
    let ready = subst (λ v. Ready (call.Send c.args.w) (seen (past_of (g.M.Handling.meaning v.handlers) v.course))) (sym c.self.view_is) c.requires in
    let all = left_of p _ k.state (standing_of p k.means k.legal) c.args.w _ _ ready.1.0 _ _ c.batch_of-batch.ensures ready.1.2 in
    let some = ready.1.1 in
    omega (arith, all, some)

pub put-requires : goal.put-requires
put-requires g c =
    let p = past_of (g.M.Handling.meaning c.self.inside.handlers) c.self.inside.ledger in
    let k = c.self.invariant in
    (op_can p _ k.state (standing_of p k.means k.legal) c.args.w _ _ _ _ c.at-op.result.now c.batch_of-batch.ensures c.at-op.ensures).queue

pub advance-requires : goal.advance-requires
advance-requires g c =
    let p = past_of (g.M.Handling.meaning c.self.inside.handlers) c.self.inside.ledger in
    let k = c.self.invariant in
    let ready = subst (λ v. Ready (call.Send c.args.w) (seen (past_of (g.M.Handling.meaning v.handlers) v.course))) (sym c.self.view_is) c.requires in
    let all = left_of p _ k.state (standing_of p k.means k.legal) c.args.w _ _ ready.1.0 _ _ c.batch_of-batch.ensures ready.1.2 in
    let some = ready.1.1 in
    (_, _, _, _, c.batch_of-batch.ensures, omega (arith, all, some))

pub invariant_of-self-in-Ok : goal.invariant_of-self-in-Ok
invariant_of-self-in-Ok g c =
    let m = g.M.Handling.meaning c.self.inside.handlers in
    let p = past_of m c.self.inside.ledger in
    let k = c.self.invariant in
    let st = standing_of p k.means k.legal in
    let ready = subst (λ v. Ready (call.Send c.args.w) (seen (past_of (g.M.Handling.meaning v.handlers) v.course))) (sym c.self.view_is) c.requires in
    let at = c.batch_of-batch.ensures in
    let room = has_room p _ k.state st (λ full. let clash = c.in-Ok.ensures.spent.1 full in cc) in
    let comes = send_comes p _ k.state st c.args.w _ _ _ _ c.at-op.result.now c.in_ok-begin.ensures.begins ready at c.at-op.ensures room in
    let phases = c.advance.ensures _ _ _ _ at in
    kept p _ _ (Send c.args.w) _ (ap (past_of m) c.in_ok-begin.ensures.room) (ap (past_of m) c.note.ensures) k.legal comes
    _ _ _ _ _ _ _ _ _ _ k refl (held_with _ _ _ _ _ _ _ _ _ _ c.in-Ok.ensures.post phases refl) c.in-Ok.ensures.own
    (held_put _ _ c.self.inside.transport.own _ _ c.args.w _ c.at-op.result.now.queue c.at-op.result.now.due (Sending _ _ _ _) (ap number_of at) (next_unnamed p _ k.state st) phases c.in-Ok.ensures.ready k.held) k.short (omega arith) c.in-Ok.ensures.cause.later

pub invariant_of-self-in-Err : goal.invariant_of-self-in-Err
invariant_of-self-in-Err g c =
    let m = g.M.Handling.meaning c.self.inside.handlers in
    let k = c.self.invariant in
    refused_post_kept (past_of m c.self.inside.ledger) _ _ (ap (past_of m) c.in_ok-begin.ensures.room) k.legal c.in_ok-begin.ensures.begins _ _ _ _ _ _ _ _ _ _ _ (post_stop m _ _ _ _ c.stop_post.ensures) k c.in-Err.ensures.cause
    (held_with _ _ _ _ _ _ _ _ _ _ c.in-Err.ensures.post refl refl) c.in-Err.ensures.own c.in-Err.ensures.ready

pub returns-in-Ok : goal.returns-in-Ok
returns-in-Ok g c =
    let m = g.M.Handling.meaning c.self.inside.handlers in
    let p = past_of m c.self.inside.ledger in
    let k = c.self.invariant in
    let st = standing_of p k.means k.legal in
    let ready = subst (λ v. Ready (call.Send c.args.w) (seen (past_of (g.M.Handling.meaning v.handlers) v.course))) (sym c.self.view_is) c.requires in
    let at = c.batch_of-batch.ensures in
    let room = has_room p _ k.state st (λ full. let clash = c.in-Ok.ensures.spent.1 full in cc) in
    let comes = send_comes p _ k.state st c.args.w _ _ _ _ c.at-op.result.now c.in_ok-begin.ensures.begins ready at c.at-op.ensures room in
    rw (sym c.self.view_is)
    (served_put g.D.Cells.honest g.D.Cells.now g.D.Cells.images g.D.Cells.firm g.D.Cells.count g.P.Cells.honest g.P.Cells.now g.P.Cells.images g.P.Cells.firm g.P.Cells.count (call.Send c.args.w) (answer.Plain (Ok tt)) p _ _ _ _ (Send c.args.w) k.state
    (ap (past_of m) c.in_ok-begin.ensures.room) (ap (past_of m) c.note.ensures) k.legal comes refl refl _ _ _ _ refl c.in-Ok.ensures.applied)

pub returns-in-Err : goal.returns-in-Err
returns-in-Err g c =
    let m = g.M.Handling.meaning c.self.inside.handlers in
    let p = past_of m c.self.inside.ledger in
    let k = c.self.invariant in
    let st = standing_of p k.means k.legal in
    let ready = subst (λ v. Ready (call.Send c.args.w) (seen (past_of (g.M.Handling.meaning v.handlers) v.course))) (sym c.self.view_is) c.requires in
    let stop = post_stop m _ _ _ _ c.stop_post.ensures in
    rw (sym c.self.view_is)
    (put_refused g.D.Cells.honest g.D.Cells.now g.D.Cells.images g.D.Cells.firm g.D.Cells.count g.P.Cells.honest g.P.Cells.now g.P.Cells.images g.P.Cells.firm g.P.Cells.count (call.Send c.args.w) (λ why. answer.Plain (Err why)) p _ _ _ _ (Send c.args.w) _ k.state
    (ap (past_of m) c.in_ok-begin.ensures.room) k.legal c.in_ok-begin.ensures.begins (λ why own r. r) _ _ _ _ stop (λ is. c.in-Err.ensures.cause.failed (ap Err is)) refl (λ full. full) (next_low p _ k.state st) c.in-Err.ensures.spent
    (send_comes p _ k.state st c.args.w _ _ _ _ c.at-op.result.now c.in_ok-begin.ensures.begins ready c.batch_of-batch.ensures c.at-op.ensures) refl c.in-Err.ensures.applied)
