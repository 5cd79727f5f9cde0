use Rattle.std.proofs.Common.{Some, None, Err, refl, sym, subst}
use Rattle.std.proofs.lemmas.Result.{err_from_is_err_and}
use Rattle.nb_base.specs.Shown.{stored}
use Rattle.nb_core.specs.Conflicts.{Conflicts}
use Rattle.nb_core.specs.Standing.{base}
use Rattle.nb_core.specs.declared.answers.DeskFault.TheVariants.{NoMemory}
use Rattle.nb_core.specs.declared.call.Answer.TheVariants as answer
use Rattle.nb_core.specs.declared.call.Call.TheVariants as call
use Rattle.nb_core.specs.declared.state.State.{State}
use Rattle.nb_hub.proofs.Judged.{fault_fails, conflict_fails, fresh_commits}
use Rattle.nb_hub.proofs.Serving.{served_refused}
use Rattle.nb_hub.specs.Ledgers.{past_of}
use Rattle.nb_hub.specs.Settling.{Judged}
use Rattle.nb_hub.proofs.hub.Hub.settle_new.Goals as goal

pub fail-requires : goal.fail-requires
fail-requires g c =
    fault_fails _ c.args.w c.args.number c.args.outcome.reads c.args.outcome.verdict c.requires c.in-Fault.fault c.in-Fault.is

pub returns-in_err-why-in-Done : goal.returns-in_err-why-in-Done
returns-in_err-why-in-Done g c o =
    let m = g.M.Handling.meaning c.self.inside.handlers in
    let p = past_of m c.self.inside.ledger in
    let k = c.self.invariant in
    let j = subst (λ v. Judged (past_of (g.M.Handling.meaning v.handlers) v.course) c.args.w c.args.number c.args.outcome.reads c.args.outcome.verdict) (sym c.self.view_is) c.requires in
    let r = err_from_is_err_and c.from_residual.result c.from_residual.ensures.1 in
    rw (r.1, r.2, sym c.self.view_is)
    (served_refused g.D.Cells.honest g.D.Cells.now g.D.Cells.images g.D.Cells.firm g.D.Cells.count g.P.Cells.honest g.P.Cells.now g.P.Cells.images g.P.Cells.firm g.P.Cells.count (call.Settle c.args.w o) (λ why. answer.Settled (Err why)) p p p.room _ _ NoMemory refl k.legal j.at.begun.on (λ why own z. z))

pub fail-requires-in-Some : goal.fail-requires-in-Some
fail-requires-in-Some g c =
    let m = g.M.Handling.meaning c.self.inside.handlers in
    let p = past_of m c.self.inside.ledger in
    let k = c.self.invariant in
    let j = subst (λ v. Judged (past_of (g.M.Handling.meaning v.handlers) v.course) c.args.w c.args.number c.args.outcome.reads c.args.outcome.verdict) (sym c.self.view_is) c.requires in
    let x = subst (λ (z : State). Conflicts (base z) c.args.outcome.reads (Some c.in-Some.why)) k.state (subst (Conflicts (stored c.self.inside.store.tables) c.args.outcome.reads) c.in-Some.is c.in_ok-why-in-Done.ensures) in
    rw (sym c.self.view_is)
    (conflict_fails p c.args.w c.args.number c.args.outcome.reads c.args.outcome.verdict j c.in-Done.plan c.in-Some.why c.in-Done.is x)

pub commit-requires : goal.commit-requires
commit-requires g c =
    let m = g.M.Handling.meaning c.self.inside.handlers in
    let p = past_of m c.self.inside.ledger in
    let k = c.self.invariant in
    let j = subst (λ v. Judged (past_of (g.M.Handling.meaning v.handlers) v.course) c.args.w c.args.number c.args.outcome.reads c.args.outcome.verdict) (sym c.self.view_is) c.requires in
    let x = subst (λ (z : State). Conflicts (base z) c.args.outcome.reads None) k.state (subst (Conflicts (stored c.self.inside.store.tables) c.args.outcome.reads) c.in-None.is c.in_ok-why-in-Done.ensures) in
    rw (sym c.self.view_is)
    (fresh_commits p c.args.w c.args.number c.args.outcome.reads c.args.outcome.verdict j c.in-Done.plan c.in-Done.is x)
