use Rattle.std.proofs.Common.{true, false, Ok, Err, refl, sym, ap, ◌∙◌, subst}
use Rattle.std.proofs.lemmas.Result.{err_from_is_err_and}
use Rattle.std.specs.Option.{option_copied}
use Rattle.nb_core.specs.Calls.{Ready}
use Rattle.nb_core.specs.Standing.{number_of}
use Rattle.nb_core.specs.declared.answers.DeskFault.TheVariants.{NoMemory}
use Rattle.nb_core.specs.declared.answers.Settled.TheVariants as settled
use Rattle.nb_core.specs.declared.call.Answer.TheVariants as answer
use Rattle.nb_core.specs.declared.call.Call.TheVariants as call
use Rattle.nb_core.specs.declared.event.Event.TheVariants.{Settle}
use Rattle.nb_hub.proofs.Judged.{twin_comes, twin_gives, twin_names, judged, served_begun}
use Rattle.nb_hub.proofs.Looks.{its_entry, found_some, kept_phase}
use Rattle.nb_hub.proofs.Serving.{served_refused, served_event}
use Rattle.nb_hub.specs.Kept.{seen}
use Rattle.nb_hub.specs.Ledgers.{past_of}
use Rattle.nb_hub.proofs.hub.Hub.make_settle.Goals as goal

pub returns-in_err-begin : goal.returns-in_err-begin
returns-in_err-begin g c =
    let p = err_from_is_err_and c.from_residual.result c.from_residual.ensures.1 in
    rw (p.1, p.2, sym c.self.view_is)
    (served_refused g.D.Cells.honest g.D.Cells.now g.D.Cells.images g.D.Cells.firm g.D.Cells.count g.P.Cells.honest g.P.Cells.now g.P.Cells.images g.P.Cells.firm g.P.Cells.count (call.Settle c.args.w c.args.outcome) (λ why. answer.Settled (Err why)) _ _ false _ _ c.in_err-begin.field-0.0
    (ap (past_of (g.M.Handling.meaning c.self.inside.handlers)) c.in_err-begin.ensures.room) c.self.invariant.legal c.in_err-begin.ensures.begins (λ why own r. r))

pub unwrap-requires : goal.unwrap-requires
unwrap-requires g c =
    let e = its_entry _ _ _ _ _ _ c.self.invariant c.args.w c.looked-number.result (ap number_of c.looked-number.ensures.1) in
    found_some c.entry.result e.0 (c.entry.ensures ∙ e.1)

pub returns-in_err-phase : goal.returns-in_err-phase
returns-in_err-phase g c =
    let p = err_from_is_err_and c.from_residual-in_err-phase.result c.from_residual-in_err-phase.ensures.1 in
    rw (p.1, p.2, sym c.self.view_is)
    (served_refused g.D.Cells.honest g.D.Cells.now g.D.Cells.images g.D.Cells.firm g.D.Cells.count g.P.Cells.honest g.P.Cells.now g.P.Cells.images g.P.Cells.firm g.P.Cells.count (call.Settle c.args.w c.args.outcome) (λ why. answer.Settled (Err why)) _ _ true _ _ NoMemory
    (ap (past_of (g.M.Handling.meaning c.self.inside.handlers)) c.in_ok-begin.ensures.room) c.self.invariant.legal c.in_ok-begin.ensures.begins (λ why own r. r))

pub invariant_of-self-in-Some : goal.invariant_of-self-in-Some
invariant_of-self-in-Some g c =
    let m = g.M.Handling.meaning c.self.inside.handlers in
    let p = past_of m c.self.inside.ledger in
    let k = c.self.invariant in
    let ready = subst (λ v. Ready (call.Settle c.args.w c.args.outcome) (seen (past_of (g.M.Handling.meaning v.handlers) v.course))) (sym c.self.view_is) c.requires in
    let there = sym c.entry.ensures ∙ ap option_copied c.unwrap.ensures in
    let x = c.in-Some.field-0 in
    let comes = twin_comes p _ _ _ _ _ k c.args.w c.looked-number.result c.args.outcome ready c.looked-number.ensures c.unwrap.result.now there c.in_ok-begin.ensures.begins c.in_ok-phase.field-0 c.in-Some.field-0 c.in-Some.is c.in_ok-phase.ensures in
    kept_phase p _ _ (Settle c.args.w) c.args.w x.phase (ap (past_of m) c.in_ok-begin.ensures.room) (ap (past_of m) c.note.ensures) k.legal comes refl
    _ c.set_phase.new.phases _ _ _ _ k c.set_phase.ensures (twin_names p _ _ _ _ _ k c.args.w c.looked-number.result c.args.outcome ready c.looked-number.ensures c.unwrap.result.now there c.in_ok-begin.ensures.begins c.in_ok-phase.field-0 c.in-Some.field-0 c.in-Some.is c.in_ok-phase.ensures)

pub returns-in-Some : goal.returns-in-Some
returns-in-Some g c =
    let m = g.M.Handling.meaning c.self.inside.handlers in
    let p = past_of m c.self.inside.ledger in
    let k = c.self.invariant in
    let ready = subst (λ v. Ready (call.Settle c.args.w c.args.outcome) (seen (past_of (g.M.Handling.meaning v.handlers) v.course))) (sym c.self.view_is) c.requires in
    let there = sym c.entry.ensures ∙ ap option_copied c.unwrap.ensures in
    let x = c.in-Some.field-0 in
    let comes = twin_comes p _ _ _ _ _ k c.args.w c.looked-number.result c.args.outcome ready c.looked-number.ensures c.unwrap.result.now there c.in_ok-begin.ensures.begins c.in_ok-phase.field-0 c.in-Some.field-0 c.in-Some.is c.in_ok-phase.ensures in
    rw (sym c.self.view_is)
    (served_event g.D.Cells.honest g.D.Cells.now g.D.Cells.images g.D.Cells.firm g.D.Cells.count g.P.Cells.honest g.P.Cells.now g.P.Cells.images g.P.Cells.firm g.P.Cells.count (call.Settle c.args.w c.args.outcome) (answer.Settled (Ok (settled.Twin x.sent))) p _ _ (Settle c.args.w) _
    (ap (past_of m) c.in_ok-begin.ensures.room) (ap (past_of m) c.note.ensures) k.legal comes refl (twin_gives p _ _ _ _ _ k c.args.w c.looked-number.result c.args.outcome ready c.looked-number.ensures c.unwrap.result.now there c.in_ok-begin.ensures.begins c.in_ok-phase.field-0 c.in-Some.field-0 c.in-Some.is c.in_ok-phase.ensures) _ _ refl refl)

pub settle_new-requires : goal.settle_new-requires
settle_new-requires g c =
    let m = g.M.Handling.meaning c.self.inside.handlers in
    let p = past_of m c.self.inside.ledger in
    let k = c.self.invariant in
    let ready = subst (λ v. Ready (call.Settle c.args.w c.args.outcome) (seen (past_of (g.M.Handling.meaning v.handlers) v.course))) (sym c.self.view_is) c.requires in
    let there = sym c.entry.ensures ∙ ap option_copied c.unwrap.ensures in
    judged p _ _ _ _ _ k c.args.w c.looked-number.result c.args.outcome ready c.looked-number.ensures c.unwrap.result.now there c.in_ok-begin.ensures.begins c.in_ok-phase.field-0 c.in-None.is c.in_ok-phase.ensures _ (ap (past_of m) c.in_ok-begin.ensures.room)

pub returns-in-None : goal.returns-in-None
returns-in-None g c =
    let m = g.M.Handling.meaning c.self.inside.handlers in
    rw (sym c.self.view_is)
    (served_begun g.D.Cells.honest g.D.Cells.now g.D.Cells.images g.D.Cells.firm g.D.Cells.count g.P.Cells.honest g.P.Cells.now g.P.Cells.images g.P.Cells.firm g.P.Cells.count (call.Settle c.args.w c.args.outcome) (answer.Settled c.settle_new.result) (past_of m c.self.inside.ledger) (past_of m c.begin.new.self) _ true _ _ _ _ (ap (past_of m) c.in_ok-begin.ensures.room) (c.settle_new.ensures c.args.outcome))
