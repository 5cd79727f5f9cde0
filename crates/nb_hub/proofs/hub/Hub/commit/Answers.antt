use Rattle.std.proofs.Common.{◌≡◌, ◌+◌, Ok, Err, refl, sym, ap, ◌∙◌, subst, arith}
use Rattle.std.proofs.lemmas.Result.{err_from_is_err_and}
use Rattle.std.specs.List.{AllByRecursion}
use Rattle.std.specs.Option.{option_copied}
use Rattle.nb_base.specs.Sound.{IsSoundTables}
use Rattle.nb_base.specs.declared.settings.Settings.{Settings}
use Rattle.nb_core.specs.Committed.{committed}
use Rattle.nb_core.specs.declared.answers.DeskFault.TheVariants.{NoMemory}
use Rattle.nb_core.specs.declared.answers.Settled.TheVariants as settled
use Rattle.nb_core.specs.declared.call.Answer.TheVariants as answer
use Rattle.nb_core.specs.declared.call.Call.TheVariants as call
use Rattle.nb_core.specs.declared.event.Event.TheVariants.{Settle}
use Rattle.nb_core.specs.declared.state.State.{State}
use Rattle.nb_dispatch.specs.Dispatches.{CanDispatch, ops_of}
use Rattle.nb_hub.proofs.Commits.{commits_at, ready_here, commit_comes, commit_gives, commit_spent, commit_may, names_one, can_send, writes_apart, unrecorded, below, tables_are, sound_after, commit_kept, applied_here}
use Rattle.nb_hub.proofs.Looks.{its_entry, found_some}
use Rattle.nb_hub.proofs.Serving.{served_refused, served_base, stopped_base}
use Rattle.nb_hub.proofs.Stopped.{base_stop, base_stop_kept}
use Rattle.nb_hub.specs.Ledgers.{past_of, constants_at, state_at}
use Rattle.nb_hub.specs.Settling.{CommitsNow}
use Rattle.nb_store.specs.Calls as table
use Rattle.nb_store.specs.declared.fault.StoreFault.TheVariants as base
use Rattle.nb_hub.proofs.hub.Hub.commit.Goals as goal

pub unwrap-requires : goal.unwrap-requires
unwrap-requires g c =
    let m = g.M.Handling.meaning c.self.inside.handlers in
    let p = past_of m c.self.inside.ledger in
    let k = c.self.invariant in
    let q = subst (λ v. CommitsNow (past_of (g.M.Handling.meaning v.handlers) v.course) c.args.w c.args.number c.args.plan.now) (sym c.self.view_is) c.requires in
    let e = its_entry _ _ _ _ _ _ k c.args.w c.args.number (names_one p c.args.w c.args.number c.args.plan.now q _ _ _ _ _ k) in
    found_some c.entry.result e.0 (c.entry.ensures ∙ e.1)

pub ops_of-requires : goal.ops_of-requires
ops_of-requires g c =
    let m = g.M.Handling.meaning c.self.inside.handlers in
    let p = past_of m c.self.inside.ledger in
    let k = c.self.invariant in
    let q = subst (λ v. CommitsNow (past_of (g.M.Handling.meaning v.handlers) v.course) c.args.w c.args.number c.args.plan.now) (sym c.self.view_is) c.requires in
    subst (λ (z : Settings). AllByRecursion (CanDispatch z) c.args.plan.now.intents) (sym c.settings-settings.ensures) (can_send p c.args.w c.args.number c.args.plan.now q _ _ _ _ _ k)

pub returns-in_err-ops : goal.returns-in_err-ops
returns-in_err-ops g c o =
    let m = g.M.Handling.meaning c.self.inside.handlers in
    let p = past_of m c.self.inside.ledger in
    let k = c.self.invariant in
    let q = subst (λ v. CommitsNow (past_of (g.M.Handling.meaning v.handlers) v.course) c.args.w c.args.number c.args.plan.now) (sym c.self.view_is) c.requires in
    let r = err_from_is_err_and c.from_residual.result c.from_residual.ensures.1 in
    rw (r.1, r.2, sym c.self.view_is)
    (served_refused g.D.Cells.honest g.D.Cells.now g.D.Cells.images g.D.Cells.firm g.D.Cells.count g.P.Cells.honest g.P.Cells.now g.P.Cells.images g.P.Cells.firm g.P.Cells.count (call.Settle c.args.w o) (λ why. answer.Settled (Err why)) p p p.room _ _ NoMemory refl k.legal q.at.begun.on (λ why own z. z))

pub returns-in_err-id : goal.returns-in_err-id
returns-in_err-id g c o =
    let m = g.M.Handling.meaning c.self.inside.handlers in
    let p = past_of m c.self.inside.ledger in
    let k = c.self.invariant in
    let q = subst (λ v. CommitsNow (past_of (g.M.Handling.meaning v.handlers) v.course) c.args.w c.args.number c.args.plan.now) (sym c.self.view_is) c.requires in
    let r = err_from_is_err_and c.from_residual-in_err-id.result c.from_residual-in_err-id.ensures.1 in
    rw (r.1, r.2, sym c.self.view_is)
    (served_refused g.D.Cells.honest g.D.Cells.now g.D.Cells.images g.D.Cells.firm g.D.Cells.count g.P.Cells.honest g.P.Cells.now g.P.Cells.images g.P.Cells.firm g.P.Cells.count (call.Settle c.args.w o) (λ why. answer.Settled (Err why)) p p p.room _ _ NoMemory refl k.legal q.at.begun.on (λ why own z. z))

pub commit-requires : goal.commit-requires
commit-requires g c =
    let m = g.M.Handling.meaning c.self.inside.handlers in
    let p = past_of m c.self.inside.ledger in
    let k = c.self.invariant in
    let q = subst (λ v. CommitsNow (past_of (g.M.Handling.meaning v.handlers) v.course) c.args.w c.args.number c.args.plan.now) (sym c.self.view_is) c.requires in
    let there = sym c.entry.ensures ∙ ap option_copied c.unwrap.ensures in
    let y = commits_at p c.args.w c.args.number c.args.plan.now q _ k.state c.unwrap.result.now there in
    let s = c.self.inside in
    let are : c.in_ok-ops.ops ≡ ops_of s.ledger.settings c.unwrap.result.now.envelope (s.store.tables.commits + 1) s.moment c.args.plan.now.intents =
    c.in_ok-ops.ensures ∙ ap (λ (z : Settings). ops_of z c.unwrap.result.now.envelope (c.commits-n.result + 1) s.moment c.args.plan.now.intents) c.settings-settings.ensures
    ∙ ap (λ i. ops_of s.ledger.settings c.unwrap.result.now.envelope (i + 1) s.moment c.args.plan.now.intents) c.commits-n.ensures.value in
    let made : table.committed c.settings-settings.result.now.endpoint s.store.tables (table.id_of c.unwrap.result.now.envelope) s.moment c.args.plan.now.writes c.in_ok-ops.ops ≡ table.committed s.ledger.settings.endpoint s.store.tables (table.id_of c.unwrap.result.now.envelope) s.moment c.args.plan.now.writes c.in_ok-ops.ops =
    ap (λ (z : Settings). table.committed z.endpoint s.store.tables (table.id_of c.unwrap.result.now.envelope) s.moment c.args.plan.now.writes c.in_ok-ops.ops) c.settings-settings.ensures in
    record {
      unrecorded = unrecorded p c.args.w c.args.number c.args.plan.now y _ _ _ _ _ k;
      apart = writes_apart p c.args.w c.args.number c.args.plan.now y _ _ _ _ _ k;
      sound = λ other. subst IsSoundTables (sym made) (sound_after p c.args.w c.args.number c.args.plan.now y _ _ _ _ _ k c.in_ok-ops.ops are other);
    }

pub stop_base-requires : goal.stop_base-requires
stop_base-requires g c =
    let m = g.M.Handling.meaning c.self.inside.handlers in
    let p = past_of m c.self.inside.ledger in
    let k = c.self.invariant in
    let q = subst (λ v. CommitsNow (past_of (g.M.Handling.meaning v.handlers) v.course) c.args.w c.args.number c.args.plan.now) (sym c.self.view_is) c.requires in
    record { fault = c.in-Err.ensures.answers; room = q.at.begun.room }

pub note-requires : goal.note-requires
note-requires g c =
    let m = g.M.Handling.meaning c.self.inside.handlers in
    let p = past_of m c.self.inside.ledger in
    let k = c.self.invariant in
    let q = subst (λ v. CommitsNow (past_of (g.M.Handling.meaning v.handlers) v.course) c.args.w c.args.number c.args.plan.now) (sym c.self.view_is) c.requires in
    record { quiet = tt; room = q.at.begun.room; on = q.at.begun.on }

pub invariant_of-self : goal.invariant_of-self
invariant_of-self g c =
    let m = g.M.Handling.meaning c.self.inside.handlers in
    let p = past_of m c.self.inside.ledger in
    let k = c.self.invariant in
    let q = subst (λ v. CommitsNow (past_of (g.M.Handling.meaning v.handlers) v.course) c.args.w c.args.number c.args.plan.now) (sym c.self.view_is) c.requires in
    let there = sym c.entry.ensures ∙ ap option_copied c.unwrap.ensures in
    let y = commits_at p c.args.w c.args.number c.args.plan.now q _ k.state c.unwrap.result.now there in
    let s = c.self.inside in
    let are : c.in_ok-ops.ops ≡ ops_of s.ledger.settings c.unwrap.result.now.envelope (s.store.tables.commits + 1) s.moment c.args.plan.now.intents =
    c.in_ok-ops.ensures ∙ ap (λ (z : Settings). ops_of z c.unwrap.result.now.envelope (c.commits-n.result + 1) s.moment c.args.plan.now.intents) c.settings-settings.ensures
    ∙ ap (λ i. ops_of s.ledger.settings c.unwrap.result.now.envelope (i + 1) s.moment c.args.plan.now.intents) c.commits-n.ensures.value in
    let made : table.committed c.settings-settings.result.now.endpoint s.store.tables (table.id_of c.unwrap.result.now.envelope) s.moment c.args.plan.now.writes c.in_ok-ops.ops ≡ table.committed s.ledger.settings.endpoint s.store.tables (table.id_of c.unwrap.result.now.envelope) s.moment c.args.plan.now.writes c.in_ok-ops.ops =
    ap (λ (z : Settings). table.committed z.endpoint s.store.tables (table.id_of c.unwrap.result.now.envelope) s.moment c.args.plan.now.writes c.in_ok-ops.ops) c.settings-settings.ensures in
    let room = below p c.args.w c.args.number c.args.plan.now y _ _ _ _ _ k (λ full. let clash : Ok c.in-Ok.n ≡ Err base.Spent = c.in-Ok.ensures.spent.1 full in absurd cc) in
    commit_kept p c.args.w c.args.number c.args.plan.now y _ _ _ _ _ k c.in_ok-ops.ops are _ c.set_phase.new.phases c.commit.new.self.tables c.in_ok-id.id _ room (ap (past_of m) c.note.ensures) (c.in_ok-id.ensures ∙ c.message_id.ensures.value) (c.in-Ok.ensures.tables ∙ made) c.set_phase.ensures c.in-Ok.ensures.cause.later

pub returns-in-Ok : goal.returns-in-Ok
returns-in-Ok g c o =
    let m = g.M.Handling.meaning c.self.inside.handlers in
    let p = past_of m c.self.inside.ledger in
    let k = c.self.invariant in
    let q = subst (λ v. CommitsNow (past_of (g.M.Handling.meaning v.handlers) v.course) c.args.w c.args.number c.args.plan.now) (sym c.self.view_is) c.requires in
    let there = sym c.entry.ensures ∙ ap option_copied c.unwrap.ensures in
    let y = commits_at p c.args.w c.args.number c.args.plan.now q _ k.state c.unwrap.result.now there in
    let s = c.self.inside in
    let are : c.in_ok-ops.ops ≡ ops_of s.ledger.settings c.unwrap.result.now.envelope (s.store.tables.commits + 1) s.moment c.args.plan.now.intents =
    c.in_ok-ops.ensures ∙ ap (λ (z : Settings). ops_of z c.unwrap.result.now.envelope (c.commits-n.result + 1) s.moment c.args.plan.now.intents) c.settings-settings.ensures
    ∙ ap (λ i. ops_of s.ledger.settings c.unwrap.result.now.envelope (i + 1) s.moment c.args.plan.now.intents) c.commits-n.ensures.value in
    let made : table.committed c.settings-settings.result.now.endpoint s.store.tables (table.id_of c.unwrap.result.now.envelope) s.moment c.args.plan.now.writes c.in_ok-ops.ops ≡ table.committed s.ledger.settings.endpoint s.store.tables (table.id_of c.unwrap.result.now.envelope) s.moment c.args.plan.now.writes c.in_ok-ops.ops =
    ap (λ (z : Settings). table.committed z.endpoint s.store.tables (table.id_of c.unwrap.result.now.envelope) s.moment c.args.plan.now.writes c.in_ok-ops.ops) c.settings-settings.ensures in
    let room = below p c.args.w c.args.number c.args.plan.now y _ _ _ _ _ k (λ full. let clash : Ok c.in-Ok.n ≡ Err base.Spent = c.in-Ok.ensures.spent.1 full in absurd cc) in
    rw (sym c.self.view_is)
    (served_base g.D.Cells.honest g.D.Cells.now g.D.Cells.images g.D.Cells.firm g.D.Cells.count g.P.Cells.honest g.P.Cells.now g.P.Cells.images g.P.Cells.firm g.P.Cells.count (call.Settle c.args.w o) (answer.Settled (Ok (settled.Committed c.in-Ok.n))) p p _ (Settle c.args.w) (committed (constants_at p) (state_at p) c.args.w c.args.number c.unwrap.result.now.envelope c.args.plan.now)
    (ready_here p c.args.w c.args.number c.args.plan.now y) (ap (past_of m) c.note.ensures) k.legal (commit_comes p c.args.w c.args.number c.args.plan.now y room) refl
    (commit_gives p c.args.w c.args.number c.args.plan.now y o c.in-Ok.n room (c.in-Ok.ensures.number ∙ ap (λ (z : State). z.tables.commits + 1) k.state)) _ _ _ c.in-Ok.n refl
    (applied_here g.D.Cells.honest g.D.Cells.now g.D.Cells.images g.D.Cells.firm _ _ _ _ _ _ _ (ap (λ (z : State). z.tables) k.state) (made ∙ tables_are p c.args.w c.args.number c.args.plan.now y _ _ _ _ _ k c.in_ok-ops.ops are) c.in-Ok.ensures.applied))

pub invariant_of-self-in-Err-1 : goal.invariant_of-self-in-Err-1
invariant_of-self-in-Err-1 g c =
    let m = g.M.Handling.meaning c.self.inside.handlers in
    let p = past_of m c.self.inside.ledger in
    let k = c.self.invariant in
    let q = subst (λ v. CommitsNow (past_of (g.M.Handling.meaning v.handlers) v.course) c.args.w c.args.number c.args.plan.now) (sym c.self.view_is) c.requires in
    rw c.in-Err.ensures.tables
    (base_stop_kept p p _ (ready_here p c.args.w c.args.number c.args.plan.now q) k.legal q.at.begun.on c.in-Err.fault c.stop_base.result _ _ _ _ _ _ _ (base_stop m _ _ c.in-Err.fault _ c.stop_base.ensures) k c.in-Err.ensures.cause.later (omega arith) (λ is. c.in-Err.ensures.cause.failed (ap Err is)))

pub returns-in-Err : goal.returns-in-Err
returns-in-Err g c o =
    let m = g.M.Handling.meaning c.self.inside.handlers in
    let p = past_of m c.self.inside.ledger in
    let k = c.self.invariant in
    let q = subst (λ v. CommitsNow (past_of (g.M.Handling.meaning v.handlers) v.course) c.args.w c.args.number c.args.plan.now) (sym c.self.view_is) c.requires in
    let there = sym c.entry.ensures ∙ ap option_copied c.unwrap.ensures in
    let y = commits_at p c.args.w c.args.number c.args.plan.now q _ k.state c.unwrap.result.now there in
    let s = c.self.inside in
    let are : c.in_ok-ops.ops ≡ ops_of s.ledger.settings c.unwrap.result.now.envelope (s.store.tables.commits + 1) s.moment c.args.plan.now.intents =
    c.in_ok-ops.ensures ∙ ap (λ (z : Settings). ops_of z c.unwrap.result.now.envelope (c.commits-n.result + 1) s.moment c.args.plan.now.intents) c.settings-settings.ensures
    ∙ ap (λ i. ops_of s.ledger.settings c.unwrap.result.now.envelope (i + 1) s.moment c.args.plan.now.intents) c.commits-n.ensures.value in
    let made : table.committed c.settings-settings.result.now.endpoint s.store.tables (table.id_of c.unwrap.result.now.envelope) s.moment c.args.plan.now.writes c.in_ok-ops.ops ≡ table.committed s.ledger.settings.endpoint s.store.tables (table.id_of c.unwrap.result.now.envelope) s.moment c.args.plan.now.writes c.in_ok-ops.ops =
    ap (λ (z : Settings). table.committed z.endpoint s.store.tables (table.id_of c.unwrap.result.now.envelope) s.moment c.args.plan.now.writes c.in_ok-ops.ops) c.settings-settings.ensures in
    rw (sym c.self.view_is)
    (stopped_base g.D.Cells.honest g.D.Cells.now g.D.Cells.images g.D.Cells.firm g.D.Cells.count g.P.Cells.honest g.P.Cells.now g.P.Cells.images g.P.Cells.firm g.P.Cells.count (call.Settle c.args.w o) (λ why. answer.Settled (Err why)) p p _ (ready_here p c.args.w c.args.number c.args.plan.now y) k.legal q.at.begun.on (λ why own z. z)
    (committed (constants_at p) (state_at p) c.args.w c.args.number c.unwrap.result.now.envelope c.args.plan.now) c.stop_base.result c.in-Err.fault _ _ _
    (base_stop m _ _ c.in-Err.fault _ c.stop_base.ensures) (λ is. c.in-Err.ensures.cause.failed (ap Err is)) refl
    (λ is. commit_spent p c.args.w c.args.number c.args.plan.now y _ _ _ _ _ k o (c.in-Err.ensures.spent.0 (ap Err is)))
    (λ is. commit_may p c.args.w c.args.number c.args.plan.now y (below p c.args.w c.args.number c.args.plan.now y _ _ _ _ _ k (λ full. let clash : Err c.in-Err.fault ≡ Err base.Spent = c.in-Err.ensures.spent.1 full in absurd cc)))
    refl
    (λ is. c.in-Err.ensures.spent_base (ap Err is))
    (applied_here g.D.Cells.honest g.D.Cells.now g.D.Cells.images g.D.Cells.firm _ _ _ _ _ _ _ (ap (λ (z : State). z.tables) k.state) (made ∙ tables_are p c.args.w c.args.number c.args.plan.now y _ _ _ _ _ k c.in_ok-ops.ops are) c.in-Err.ensures.applied))
