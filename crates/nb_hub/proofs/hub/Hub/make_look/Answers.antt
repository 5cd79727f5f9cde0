use Rattle.std.proofs.Common.{◌≡◌, true, false, Ok, Err, refl, sym, ap, ◌∙◌, subst}
use Rattle.std.proofs.lemmas.Result.{err_from_is_err_and}
use Rattle.std.specs.Option.{option_copied}
use Rattle.nb_core.specs.Calls.{Ready}
use Rattle.nb_core.specs.Changes.{put_phase}
use Rattle.nb_core.specs.Standing.{number_of}
use Rattle.nb_core.specs.declared.answers.DeskFault.TheVariants.{NoMemory}
use Rattle.nb_core.specs.declared.answers.Look.TheVariants.{Fresh, Known as KnownIs}
use Rattle.nb_core.specs.declared.call.Answer.TheVariants as answer
use Rattle.nb_core.specs.declared.call.Call.TheVariants as call
use Rattle.nb_core.specs.declared.event.Event.TheVariants.{Look}
use Rattle.nb_core.specs.declared.phase.Phase.TheVariants.{Looked}
use Rattle.nb_base.specs.Shown.{seen as shown, stored}
use Rattle.nb_hub.proofs.Looks.{its_entry, found_some, kept_phase, known_comes, known_gives, known_names, new_comes, new_gives}
use Rattle.nb_hub.proofs.Serving.{served_refused, served_event}
use Rattle.nb_hub.specs.Kept.{seen}
use Rattle.nb_hub.specs.Ledgers.{past_of}
use Rattle.nb_hub.proofs.hub.Hub.make_look.Goals as goal

pub returns-in_err-begin : goal.returns-in_err-begin
returns-in_err-begin g c =
    let p = err_from_is_err_and c.from_residual.result c.from_residual.ensures.1 in
    rw (p.1, p.2, sym c.self.view_is)
    (served_refused g.D.Cells.honest g.D.Cells.now g.D.Cells.images g.D.Cells.firm g.D.Cells.count g.P.Cells.honest g.P.Cells.now g.P.Cells.images g.P.Cells.firm g.P.Cells.count (call.Look c.args.w) (λ why. answer.Saw (Err why)) _ _ false _ _ c.in_err-begin.field-0.0
    (ap (past_of (g.M.Handling.meaning c.self.inside.handlers)) c.in_err-begin.ensures.room) c.self.invariant.legal c.in_err-begin.ensures.begins (λ why own r. r))

pub unwrap-requires : goal.unwrap-requires
unwrap-requires g c =
    let e = its_entry _ _ _ _ _ _ c.self.invariant c.args.w c.held-number.result (ap number_of c.held-number.ensures) in
    found_some c.entry.result e.0 (c.entry.ensures ∙ e.1)

pub returns-in_err-phase : goal.returns-in_err-phase
returns-in_err-phase g c =
    let p = err_from_is_err_and c.from_residual-in_err-phase.result c.from_residual-in_err-phase.ensures.1 in
    rw (p.1, p.2, sym c.self.view_is)
    (served_refused g.D.Cells.honest g.D.Cells.now g.D.Cells.images g.D.Cells.firm g.D.Cells.count g.P.Cells.honest g.P.Cells.now g.P.Cells.images g.P.Cells.firm g.P.Cells.count (call.Look c.args.w) (λ why. answer.Saw (Err why)) _ _ true _ _ NoMemory
    (ap (past_of (g.M.Handling.meaning c.self.inside.handlers)) c.in_ok-begin.ensures.room) c.self.invariant.legal c.in_ok-begin.ensures.begins (λ why own r. r))

pub returns-in_err-keys-in-None : goal.returns-in_err-keys-in-None
returns-in_err-keys-in-None g c =
    let p = err_from_is_err_and c.from_residual-in_err-keys-in-None.result c.from_residual-in_err-keys-in-None.ensures.1 in
    rw (p.1, p.2, sym c.self.view_is)
    (served_refused g.D.Cells.honest g.D.Cells.now g.D.Cells.images g.D.Cells.firm g.D.Cells.count g.P.Cells.honest g.P.Cells.now g.P.Cells.images g.P.Cells.firm g.P.Cells.count (call.Look c.args.w) (λ why. answer.Saw (Err why)) _ _ true _ _ NoMemory
    (ap (past_of (g.M.Handling.meaning c.self.inside.handlers)) c.in_ok-begin.ensures.room) c.self.invariant.legal c.in_ok-begin.ensures.begins (λ why own r. r))

pub returns-in_err-reads-in-None : goal.returns-in_err-reads-in-None
returns-in_err-reads-in-None g c =
    let p = err_from_is_err_and c.from_residual-in_err-reads-in-None.result c.from_residual-in_err-reads-in-None.ensures.1 in
    rw (p.1, p.2, sym c.self.view_is)
    (served_refused g.D.Cells.honest g.D.Cells.now g.D.Cells.images g.D.Cells.firm g.D.Cells.count g.P.Cells.honest g.P.Cells.now g.P.Cells.images g.P.Cells.firm g.P.Cells.count (call.Look c.args.w) (λ why. answer.Saw (Err why)) _ _ true _ _ NoMemory
    (ap (past_of (g.M.Handling.meaning c.self.inside.handlers)) c.in_ok-begin.ensures.room) c.self.invariant.legal c.in_ok-begin.ensures.begins (λ why own r. r))

pub returns-in_err-copy-in-None : goal.returns-in_err-copy-in-None
returns-in_err-copy-in-None g c =
    let p = err_from_is_err_and c.from_residual-in_err-copy-in-None.result c.from_residual-in_err-copy-in-None.ensures.1 in
    rw (p.1, p.2, sym c.self.view_is)
    (served_refused g.D.Cells.honest g.D.Cells.now g.D.Cells.images g.D.Cells.firm g.D.Cells.count g.P.Cells.honest g.P.Cells.now g.P.Cells.images g.P.Cells.firm g.P.Cells.count (call.Look c.args.w) (λ why. answer.Saw (Err why)) _ _ true _ _ NoMemory
    (ap (past_of (g.M.Handling.meaning c.self.inside.handlers)) c.in_ok-begin.ensures.room) c.self.invariant.legal c.in_ok-begin.ensures.begins (λ why own r. r))

pub invariant_of-self-in-Some : goal.invariant_of-self-in-Some
invariant_of-self-in-Some g c =
    let m = g.M.Handling.meaning c.self.inside.handlers in
    let p = past_of m c.self.inside.ledger in
    let k = c.self.invariant in
    let ready = subst (λ v. Ready (call.Look c.args.w) (seen (past_of (g.M.Handling.meaning v.handlers) v.course))) (sym c.self.view_is) c.requires in
    let there = sym c.entry.ensures ∙ ap option_copied c.unwrap.ensures in
    let x = c.in-Some.field-0 in
    let comes = known_comes p _ _ _ _ _ k c.args.w c.held-number.result c.unwrap.result.now c.held-number.ensures there c.in_ok-phase.field-0 c.in-Some.field-0 c.in-Some.is c.in_ok-phase.ensures c.in_ok-begin.ensures.begins ready in
    kept_phase p _ _ (Look c.args.w) c.args.w x.phase (ap (past_of m) c.in_ok-begin.ensures.room) (ap (past_of m) c.note.ensures) k.legal comes refl
    _ c.set_phase.new.phases _ _ _ _ k c.set_phase.ensures (known_names p _ _ _ _ _ k c.args.w c.held-number.result c.unwrap.result.now c.held-number.ensures there c.in_ok-phase.field-0 c.in-Some.field-0 c.in-Some.is c.in_ok-phase.ensures)

pub returns-in-Some : goal.returns-in-Some
returns-in-Some g c =
    let m = g.M.Handling.meaning c.self.inside.handlers in
    let p = past_of m c.self.inside.ledger in
    let k = c.self.invariant in
    let ready = subst (λ v. Ready (call.Look c.args.w) (seen (past_of (g.M.Handling.meaning v.handlers) v.course))) (sym c.self.view_is) c.requires in
    let there = sym c.entry.ensures ∙ ap option_copied c.unwrap.ensures in
    let x = c.in-Some.field-0 in
    let comes = known_comes p _ _ _ _ _ k c.args.w c.held-number.result c.unwrap.result.now c.held-number.ensures there c.in_ok-phase.field-0 c.in-Some.field-0 c.in-Some.is c.in_ok-phase.ensures c.in_ok-begin.ensures.begins ready in
    rw (sym c.self.view_is)
    (served_event g.D.Cells.honest g.D.Cells.now g.D.Cells.images g.D.Cells.firm g.D.Cells.count g.P.Cells.honest g.P.Cells.now g.P.Cells.images g.P.Cells.firm g.P.Cells.count (call.Look c.args.w) (answer.Saw (Ok (KnownIs x.sent))) p _ _ (Look c.args.w) _
    (ap (past_of m) c.in_ok-begin.ensures.room) (ap (past_of m) c.note.ensures) k.legal comes refl (known_gives p _ _ _ _ _ k c.args.w c.held-number.result c.unwrap.result.now c.held-number.ensures there c.in_ok-phase.field-0 c.in-Some.field-0 c.in-Some.is c.in_ok-phase.ensures) _ _ refl refl)

pub invariant_of-self-in-None : goal.invariant_of-self-in-None
invariant_of-self-in-None g c =
    let m = g.M.Handling.meaning c.self.inside.handlers in
    let p = past_of m c.self.inside.ledger in
    let k = c.self.invariant in
    let ready = subst (λ v. Ready (call.Look c.args.w) (seen (past_of (g.M.Handling.meaning v.handlers) v.course))) (sym c.self.view_is) c.requires in
    let there = sym c.entry.ensures ∙ ap option_copied c.unwrap.ensures in
    let are : c.in_ok-reads-in-None.reads ≡ shown (stored c.self.inside.store.tables) (m.keys c.unwrap.result.now.envelope) = c.in_ok-reads-in-None.ensures ∙ ap (shown (stored c.self.inside.store.tables)) c.in_ok-keys-in-None.ensures in
    let comes = new_comes p _ _ _ _ _ k c.args.w c.held-number.result c.unwrap.result.now c.held-number.ensures there c.in_ok-phase.field-0 c.in-None.is c.in_ok-phase.ensures c.in_ok-reads-in-None.reads are c.in_ok-begin.ensures.begins ready in
    kept_phase p _ _ (Look c.args.w) c.args.w (Looked c.held-number.result c.in_ok-reads-in-None.reads) (ap (past_of m) c.in_ok-begin.ensures.room) (ap (past_of m) c.note-in-None.ensures) k.legal comes refl
    _ c.set_phase-in-None.new.phases _ _ _ _ k (c.set_phase-in-None.ensures ∙ ap (λ rs. put_phase c.self.inside.phases c.args.w (Looked c.held-number.result rs)) c.in_ok-copy-in-None.ensures) (ap number_of c.held-number.ensures)

pub returns-in_ok-copy-in-None : goal.returns-in_ok-copy-in-None
returns-in_ok-copy-in-None g c =
    let m = g.M.Handling.meaning c.self.inside.handlers in
    let p = past_of m c.self.inside.ledger in
    let k = c.self.invariant in
    let ready = subst (λ v. Ready (call.Look c.args.w) (seen (past_of (g.M.Handling.meaning v.handlers) v.course))) (sym c.self.view_is) c.requires in
    let there = sym c.entry.ensures ∙ ap option_copied c.unwrap.ensures in
    let are : c.in_ok-reads-in-None.reads ≡ shown (stored c.self.inside.store.tables) (m.keys c.unwrap.result.now.envelope) = c.in_ok-reads-in-None.ensures ∙ ap (shown (stored c.self.inside.store.tables)) c.in_ok-keys-in-None.ensures in
    let comes = new_comes p _ _ _ _ _ k c.args.w c.held-number.result c.unwrap.result.now c.held-number.ensures there c.in_ok-phase.field-0 c.in-None.is c.in_ok-phase.ensures c.in_ok-reads-in-None.reads are c.in_ok-begin.ensures.begins ready in
    rw (sym c.self.view_is)
    (served_event g.D.Cells.honest g.D.Cells.now g.D.Cells.images g.D.Cells.firm g.D.Cells.count g.P.Cells.honest g.P.Cells.now g.P.Cells.images g.P.Cells.firm g.P.Cells.count (call.Look c.args.w) (answer.Saw (Ok (Fresh c.in_ok-reads-in-None.reads))) p _ _ (Look c.args.w) _
    (ap (past_of m) c.in_ok-begin.ensures.room) (ap (past_of m) c.note-in-None.ensures) k.legal comes refl (new_gives p _ _ _ _ _ k c.args.w c.held-number.result c.unwrap.result.now c.held-number.ensures there c.in_ok-phase.field-0 c.in-None.is c.in_ok-phase.ensures c.in_ok-reads-in-None.reads are) _ _ refl refl)
