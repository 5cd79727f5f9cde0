use Rattle.std.proofs.Common.{false, Ok, Err, refl, sym, ap, subst, arith}
use Rattle.std.proofs.lemmas.Result.{err_from_is_err_and}
use Rattle.nb_core.specs.Calls.{Ready}
use Rattle.nb_core.specs.Standing.{number_of}
use Rattle.nb_core.specs.declared.call.Answer.TheVariants as answer
use Rattle.nb_core.specs.declared.call.Call.TheVariants as call
use Rattle.nb_core.specs.declared.event.Event.TheVariants.{Mark}
use Rattle.nb_core.specs.declared.phase.Phase.TheVariants.{Done}
use Rattle.nb_hub.proofs.Histories.{standing_of}
use Rattle.nb_hub.proofs.Leases.{sends_at, row_of, there_is, is_false, marked_is, held_marked, held_on, mark_comes}
use Rattle.nb_hub.proofs.Refusals.{fault_of_commit, refused_base_kept}
use Rattle.nb_hub.proofs.Serving.{served_refused}
use Rattle.nb_hub.proofs.Stopped.{base_stop}
use Rattle.nb_hub.proofs.Storing.{served_record, record_refused}
use Rattle.nb_hub.proofs.Went.{kept, kept_room}
use Rattle.nb_hub.specs.Kept.{seen}
use Rattle.nb_hub.specs.Ledgers.{past_of}
use Rattle.nb_hub.proofs.hub.Hub.make_mark.Goals as goal

pub invariant_of-self : goal.invariant_of-self
invariant_of-self g c =
    let m = g.M.Handling.meaning c.self.inside.handlers in
    kept_room (past_of m c.self.inside.ledger) _ false _ _ _ _ _ (ap (past_of m) c.in_err-begin.ensures.room) c.self.invariant

pub returns-in_err-begin : goal.returns-in_err-begin
returns-in_err-begin g c =
    let e = err_from_is_err_and c.from_residual.result c.from_residual.ensures.1 in
    rw (e.1, e.2, sym c.self.view_is)
    (served_refused g.D.Cells.honest g.D.Cells.now g.D.Cells.images g.D.Cells.firm g.D.Cells.count g.P.Cells.honest g.P.Cells.now g.P.Cells.images g.P.Cells.firm g.P.Cells.count (call.Mark c.args.w) (λ why. answer.Plain (Err why)) _ _ false _ _ c.in_err-begin.field-0.0
    (ap (past_of (g.M.Handling.meaning c.self.inside.handlers)) c.in_err-begin.ensures.room) c.self.invariant.legal c.in_err-begin.ensures.begins (λ why own r. r))

pub batch_of-batch-requires : goal.batch_of-batch-requires
batch_of-batch-requires g c =
    let p = past_of (g.M.Handling.meaning c.self.inside.handlers) c.self.inside.ledger in
    let k = c.self.invariant in
    let ready = subst (λ v. Ready (call.Mark c.args.w) (seen (past_of (g.M.Handling.meaning v.handlers) v.course))) (sym c.self.view_is) c.requires in
    sends_at p _ k.state (standing_of p k.means k.legal) c.args.w 0 ready.1

pub mark-requires : goal.mark-requires
mark-requires g c =
    let p = past_of (g.M.Handling.meaning c.self.inside.handlers) c.self.inside.ledger in
    let k = c.self.invariant in
    row_of p _ k.state (standing_of p k.means k.legal) c.args.w _ _ _ _ c.batch_of-batch.ensures

pub set_phase-requires : goal.set_phase-requires
set_phase-requires g c = there_is _ c.args.w _ _ c.batch_of-batch.ensures refl

pub stop_base-requires-clause-fault : goal.stop_base-requires-clause-fault
stop_base-requires-clause-fault g c = fault_of_commit c.in-Err.fault c.in-Err.ensures.answers

pub invariant_of-self-in-Ok : goal.invariant_of-self-in-Ok
invariant_of-self-in-Ok g c =
    let m = g.M.Handling.meaning c.self.inside.handlers in
    let p = past_of m c.self.inside.ledger in
    let k = c.self.invariant in
    let st = standing_of p k.means k.legal in
    let ready = subst (λ v. Ready (call.Mark c.args.w) (seen (past_of (g.M.Handling.meaning v.handlers) v.course))) (sym c.self.view_is) c.requires in
    let at = c.batch_of-batch.ensures in
    let row = row_of p _ k.state st c.args.w _ _ _ _ at in
    let comes = mark_comes p _ k.state st c.args.w _ _ _ _ row.0 c.in_ok-begin.ensures.begins ready at row.1 in
    kept p _ _ (Mark c.args.w) _ (ap (past_of m) c.in_ok-begin.ensures.room) (ap (past_of m) c.note.ensures) k.legal comes
    _ _ _ _ _ _ _ _ _ _ k refl (held_marked _ _ _ _ _ _ _ _ _ (c.in-Ok.ensures.tables row.0 row.1) c.set_phase.ensures) refl
    (held_on _ _ _ c.args.w (Done _) (ap number_of at) c.set_phase.ensures k.held) k.short c.in-Ok.ensures.cause.later (omega arith)

pub invariant_of-self-in-Err : goal.invariant_of-self-in-Err
invariant_of-self-in-Err g c =
    let m = g.M.Handling.meaning c.self.inside.handlers in
    let p = past_of m c.self.inside.ledger in
    let k = c.self.invariant in
    let row = row_of p _ k.state (standing_of p k.means k.legal) c.args.w _ _ _ _ c.batch_of-batch.ensures in
    refused_base_kept p _ _ (ap (past_of m) c.in_ok-begin.ensures.room) k.legal c.in_ok-begin.ensures.begins _ _ _ _ _ _ _ _ _ (base_stop m _ _ _ _ c.stop_base.ensures) k c.in-Err.ensures.cause
    (held_marked _ _ _ _ _ _ _ _ _ (c.in-Err.ensures.tables row.0 row.1) refl)

pub returns-in-Ok : goal.returns-in-Ok
returns-in-Ok g c =
    let m = g.M.Handling.meaning c.self.inside.handlers in
    let p = past_of m c.self.inside.ledger in
    let k = c.self.invariant in
    let st = standing_of p k.means k.legal in
    let ready = subst (λ v. Ready (call.Mark c.args.w) (seen (past_of (g.M.Handling.meaning v.handlers) v.course))) (sym c.self.view_is) c.requires in
    let at = c.batch_of-batch.ensures in
    let row = row_of p _ k.state st c.args.w _ _ _ _ at in
    let comes = mark_comes p _ k.state st c.args.w _ _ _ _ row.0 c.in_ok-begin.ensures.begins ready at row.1 in
    rw (sym c.self.view_is)
    (served_record g.D.Cells.honest g.D.Cells.now g.D.Cells.images g.D.Cells.firm g.D.Cells.count g.P.Cells.honest g.P.Cells.now g.P.Cells.images g.P.Cells.firm g.P.Cells.count (call.Mark c.args.w) (answer.Plain (Ok tt)) p _ _ _ _ (Mark c.args.w) k.state
    (ap (past_of m) c.in_ok-begin.ensures.room) (ap (past_of m) c.note.ensures) k.legal comes refl refl tt _ _ _ row.0.sent refl
    (λ sent. (marked_is p _ k.state st _ row.0 row.1 sent, (c.in-Ok.ensures.sent row.0 row.1 sent).1)) (c.in-Ok.ensures.applied row.0 row.1))

pub returns-in-Err : goal.returns-in-Err
returns-in-Err g c =
    let m = g.M.Handling.meaning c.self.inside.handlers in
    let p = past_of m c.self.inside.ledger in
    let k = c.self.invariant in
    let st = standing_of p k.means k.legal in
    let ready = subst (λ v. Ready (call.Mark c.args.w) (seen (past_of (g.M.Handling.meaning v.handlers) v.course))) (sym c.self.view_is) c.requires in
    let at = c.batch_of-batch.ensures in
    let row = row_of p _ k.state st c.args.w _ _ _ _ at in
    let comes = mark_comes p _ k.state st c.args.w _ _ _ _ row.0 c.in_ok-begin.ensures.begins ready at row.1 in
    let unsent = is_false row.0.sent (λ sent. let clash = (c.in-Err.ensures.sent row.0 row.1 sent).0 in absurd cc) in
    rw (sym c.self.view_is)
    (record_refused g.D.Cells.honest g.D.Cells.now g.D.Cells.images g.D.Cells.firm g.D.Cells.count g.P.Cells.honest g.P.Cells.now g.P.Cells.images g.P.Cells.firm g.P.Cells.count (call.Mark c.args.w) (λ why. answer.Plain (Err why)) p _ _ _ _ (Mark c.args.w) _ k.state
    (ap (past_of m) c.in_ok-begin.ensures.room) k.legal c.in_ok-begin.ensures.begins (λ why own r. r) _ _ _ _ (base_stop m _ _ _ _ c.stop_base.ensures) (λ is. c.in-Err.ensures.cause.failed (ap Err is)) refl c.in-Err.ensures.answers comes refl (c.in-Err.ensures.applied row.0 row.1 unsent))
