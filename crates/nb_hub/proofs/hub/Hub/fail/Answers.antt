use Rattle.std.proofs.Common.{◌++◌, Ok, Err, refl, sym, ap, ◌∙◌, subst}
use Rattle.std.proofs.lemmas.Result.{err_from_is_err_and}
use Rattle.std.specs.Option.{option_copied}
use Rattle.nb_core.specs.declared.answers.DeskFault.TheVariants.{NoMemory}
use Rattle.nb_core.specs.declared.call.Answer.TheVariants as answer
use Rattle.nb_core.specs.declared.call.Call.TheVariants as call
use Rattle.nb_core.specs.declared.event.Event.TheVariants.{Settle}
use Rattle.nb_hub.proofs.Fails.{fails_at, begun_here, fails_comes, fails_gives, few_fails, names_it, next_is, fails_kept}
use Rattle.nb_hub.proofs.Looks.{its_entry, its_seat, found_some}
use Rattle.nb_hub.proofs.Serving.{served_refused, served_event}
use Rattle.nb_hub.specs.Failures.{listed, settled_as, AmountsTo}
use Rattle.nb_hub.specs.Ledgers.{past_of}
use Rattle.nb_hub.specs.Settling.{FailsNow}
use Rattle.nb_hub.proofs.hub.Hub.fail.Goals as goal

pub unwrap-requires : goal.unwrap-requires
unwrap-requires g c =
    let m = g.M.Handling.meaning c.self.inside.handlers in
    let p = past_of m c.self.inside.ledger in
    let k = c.self.invariant in
    let f = subst (λ v. FailsNow (past_of (g.M.Handling.meaning v.handlers) v.course) c.args.w c.args.number c.args.why) (sym c.self.view_is) c.requires in
    let e = its_entry _ _ _ _ _ _ k c.args.w c.args.number (names_it p c.args.w c.args.number c.args.why f _ _ _ _ _ k) in
    found_some c.entry.result e.0 (c.entry.ensures ∙ e.1)

pub failure_of-requires : goal.failure_of-requires
failure_of-requires g c =
    let m = g.M.Handling.meaning c.self.inside.handlers in
    let p = past_of m c.self.inside.ledger in
    let k = c.self.invariant in
    let f = subst (λ v. FailsNow (past_of (g.M.Handling.meaning v.handlers) v.course) c.args.w c.args.number c.args.why) (sym c.self.view_is) c.requires in
    few_fails p c.args.w c.args.number c.args.why f _ _ _ _ _ k

pub returns-in_err-failure : goal.returns-in_err-failure
returns-in_err-failure g c o =
    let m = g.M.Handling.meaning c.self.inside.handlers in
    let p = past_of m c.self.inside.ledger in
    let k = c.self.invariant in
    let f = subst (λ v. FailsNow (past_of (g.M.Handling.meaning v.handlers) v.course) c.args.w c.args.number c.args.why) (sym c.self.view_is) c.requires in
    let r = err_from_is_err_and c.from_residual.result c.from_residual.ensures.1 in
    rw (r.1, r.2, sym c.self.view_is)
    (served_refused g.D.Cells.honest g.D.Cells.now g.D.Cells.images g.D.Cells.firm g.D.Cells.count g.P.Cells.honest g.P.Cells.now g.P.Cells.images g.P.Cells.firm g.P.Cells.count (call.Settle c.args.w o) (λ why. answer.Settled (Err why)) p p p.room _ _ NoMemory refl k.legal f.at.begun.on (λ why own z. z))

pub returns-in_err-make_room : goal.returns-in_err-make_room
returns-in_err-make_room g c o =
    let m = g.M.Handling.meaning c.self.inside.handlers in
    let p = past_of m c.self.inside.ledger in
    let k = c.self.invariant in
    let f = subst (λ v. FailsNow (past_of (g.M.Handling.meaning v.handlers) v.course) c.args.w c.args.number c.args.why) (sym c.self.view_is) c.requires in
    let r = err_from_is_err_and c.from_residual-in_err-make_room.result c.from_residual-in_err-make_room.ensures.1 in
    rw (r.1, r.2, c.in_err-make_room.ensures.refused, sym c.self.view_is)
    (served_refused g.D.Cells.honest g.D.Cells.now g.D.Cells.images g.D.Cells.firm g.D.Cells.count g.P.Cells.honest g.P.Cells.now g.P.Cells.images g.P.Cells.firm g.P.Cells.count (call.Settle c.args.w o) (λ why. answer.Settled (Err why)) p p p.room _ _ NoMemory refl k.legal f.at.begun.on (λ why own z. z))

pub returns-in_err-insert : goal.returns-in_err-insert
returns-in_err-insert g c o =
    let m = g.M.Handling.meaning c.self.inside.handlers in
    let p = past_of m c.self.inside.ledger in
    let k = c.self.invariant in
    let f = subst (λ v. FailsNow (past_of (g.M.Handling.meaning v.handlers) v.course) c.args.w c.args.number c.args.why) (sym c.self.view_is) c.requires in
    let r = err_from_is_err_and c.from_residual-in_err-insert.result c.from_residual-in_err-insert.ensures.1 in
    rw (r.1, r.2, sym c.self.view_is)
    (served_refused g.D.Cells.honest g.D.Cells.now g.D.Cells.images g.D.Cells.firm g.D.Cells.count g.P.Cells.honest g.P.Cells.now g.P.Cells.images g.P.Cells.firm g.P.Cells.count (call.Settle c.args.w o) (λ why. answer.Settled (Err why)) p p p.room _ _ NoMemory refl k.legal f.at.begun.on (λ why own z. z))

pub free_by-requires : goal.free_by-requires
free_by-requires g c =
    let m = g.M.Handling.meaning c.self.inside.handlers in
    let p = past_of m c.self.inside.ledger in
    let k = c.self.invariant in
    let f = subst (λ v. FailsNow (past_of (g.M.Handling.meaning v.handlers) v.course) c.args.w c.args.number c.args.why) (sym c.self.view_is) c.requires in
    its_seat p _ _ _ _ _ k c.args.w c.args.number (names_it p c.args.w c.args.number c.args.why f _ _ _ _ _ k) c.self.inside.transport.indexed

pub note-requires : goal.note-requires
note-requires g c =
    let m = g.M.Handling.meaning c.self.inside.handlers in
    let p = past_of m c.self.inside.ledger in
    let k = c.self.invariant in
    let f = subst (λ v. FailsNow (past_of (g.M.Handling.meaning v.handlers) v.course) c.args.w c.args.number c.args.why) (sym c.self.view_is) c.requires in
    record { quiet = tt; room = f.at.begun.room; on = f.at.begun.on }

pub invariant_of-self : goal.invariant_of-self
invariant_of-self g c =
    rw c.in_err-make_room.ensures.items c.self.invariant

pub invariant_of-self-2 : goal.invariant_of-self-2
invariant_of-self-2 g c =
    let m = g.M.Handling.meaning c.self.inside.handlers in
    let p = past_of m c.self.inside.ledger in
    let k = c.self.invariant in
    let f = subst (λ v. FailsNow (past_of (g.M.Handling.meaning v.handlers) v.course) c.args.w c.args.number c.args.why) (sym c.self.view_is) c.requires in
    let there = sym c.entry.ensures ∙ ap option_copied c.unwrap.ensures in
    let y = fails_at p c.args.w c.args.number c.args.why f _ k.state c.unwrap.result.now there in
    let x = c.in_ok-failure.failure in
    let a : AmountsTo c.self.inside.ledger.settings c.self.inside.moment c.self.inside.fails c.args.number c.unwrap.result.now.envelope c.args.why x =
    subst (λ z. AmountsTo z c.self.inside.moment c.self.inside.fails c.args.number c.unwrap.result.now.envelope c.args.why x) c.settings-settings.ensures c.in_ok-failure.ensures in
    rw (c.free_by.ensures.post, c.free_by.ensures.own)
    (fails_kept p c.args.w c.args.number c.args.why y _ _ _ _ _ k x a c.set_phase.new.phases c.insert.new.self c.add.new.discarded.items c.set_phase.ensures c.in_ok-insert.ensures.ok
    (c.add.ensures ∙ ap (λ ds. ds ++ listed x.given_up) c.in_ok-make_room.ensures.items)
    _ _ (ap (past_of m) c.note.ensures) c.self.inside.transport.indexed c.free_by.ensures.ready c.in_ok-make_room.ensures.room.1)

pub returns : goal.returns
returns g c o =
    let m = g.M.Handling.meaning c.self.inside.handlers in
    let p = past_of m c.self.inside.ledger in
    let k = c.self.invariant in
    let f = subst (λ v. FailsNow (past_of (g.M.Handling.meaning v.handlers) v.course) c.args.w c.args.number c.args.why) (sym c.self.view_is) c.requires in
    let there = sym c.entry.ensures ∙ ap option_copied c.unwrap.ensures in
    let y = fails_at p c.args.w c.args.number c.args.why f _ k.state c.unwrap.result.now there in
    let x = c.in_ok-failure.failure in
    let a : AmountsTo c.self.inside.ledger.settings c.self.inside.moment c.self.inside.fails c.args.number c.unwrap.result.now.envelope c.args.why x =
    subst (λ z. AmountsTo z c.self.inside.moment c.self.inside.fails c.args.number c.unwrap.result.now.envelope c.args.why x) c.settings-settings.ensures c.in_ok-failure.ensures in
    rw (c.settled_by.ensures, c.free_by.ensures.post, sym c.self.view_is)
    (served_event g.D.Cells.honest g.D.Cells.now g.D.Cells.images g.D.Cells.firm g.D.Cells.count g.P.Cells.honest g.P.Cells.now g.P.Cells.images g.P.Cells.firm g.P.Cells.count (call.Settle c.args.w o) (answer.Settled (Ok (settled_as c.args.why x.next))) p p _ (Settle c.args.w) _
    (begun_here p c.args.w c.args.number c.args.why y) (ap (past_of m) c.note.ensures) k.legal (fails_comes p c.args.w c.args.number c.args.why y) refl
    (fails_gives p c.args.w c.args.number c.args.why y o x.next (next_is p c.args.w c.args.number c.args.why y _ _ _ _ _ k x a)) _ _ refl refl)
