-- A recorded id is not committed before it is purged.
use Rattle.std.proofs.Common.{◌≡◌, ◌≢◌, ◌⊎◌, ◌+◌, ◌≤◌, ℕ, true, Some, None, refl, sym, ap, ◌∙◌, inl, inr, ⊎_elim, subst, List, []}
use Rattle.nb_base.proofs.Maps.{names, same_or_other, at_same, at_other, kept}
use Rattle.nb_base.specs.declared.entry.OutboxRow.{OutboxRow}
use Rattle.nb_core.specs.History.{Run, ends, goes}
use Rattle.nb_core.specs.Once.{IsCommitOf, IsPurgeOf, PurgedFirst, CommittedOnce, Once}
use Rattle.nb_core.specs.State.{State, Constants, recorded, commit_record}
use Rattle.nb_core.specs.Step.{Event, Step, settle_commit, mark, purge}
use Rattle.nb_headers.specs.Reads.{id_of}
use Rattle.std.specs.FinMap as map

-- a record of the id with this moment
abbrev Has : State → List ℕ → ℕ → Type 0
Has s id at = (r : OutboxRow) × (recorded s id ≡ Some r) × (r.at ≡ at)

record_step : {c : Constants} {s s' : State} {e : Event} (step : Step c s e s') (id : List ℕ) (at : ℕ) → Has s id at
    → IsPurgeOf id (at + c.settings.retention) step ⊎ ((IsCommitOf id step → ⊥) × Has s' id at)
record_step {c = c} {s = s} (settle_commit {e = e} {plan = plan} looked there new verdict fresh room) id at h =
    let apart : id ≢ (id_of e.envelope) = λ (same : id ≡ (id_of e.envelope)).
    (let x : Some h.0 ≡ None = sym h.1 ∙ ap (recorded s) same ∙ new in cc) in
    inr ((λ same. apart (sym same)), (h.0, at_other names s.tables.outbox (id_of e.envelope) (commit_record c s e.envelope plan) id apart ∙ h.1, h.2))
record_step {s = s} (mark {id = other} {r = r} sending all there) id at h =
    ⊎_elim
    (λ (same : id ≡ other).
    let r_is : Some r ≡ Some h.0 = sym there ∙ ap (recorded s) (sym same) ∙ h.1 in
    let at_is : r.at ≡ at = (let x : r ≡ h.0 = cc in ap (λ (y : OutboxRow). y.at) x ∙ h.2) in
    inr ((λ x. x), (record r { sent = true; ops = [] }, ap (map.get (map.insert s.tables.outbox other (record r { sent = true; ops = [] }))) same ∙ at_same names s.tables.outbox other (record r { sent = true; ops = [] }), at_is)))
    (λ (ne : id ≢ other). inr ((λ x. x), (h.0, at_other names s.tables.outbox other (record r { sent = true; ops = [] }) id ne ∙ h.1, h.2)))
    (same_or_other names id other)
record_step {c = c} {s = s} (purge {id = other} {r = r} idle there sent old) id at h =
    ⊎_elim
    (λ (same : id ≡ other).
    let r_is : Some r ≡ Some h.0 = sym there ∙ ap (recorded s) (sym same) ∙ h.1 in
    let at_is : r.at ≡ at = (let x : r ≡ h.0 = cc in ap (λ (y : OutboxRow). y.at) x ∙ h.2) in
    inl (sym same, subst (λ x. x + c.settings.retention ≤ s.moment) at_is old))
    (λ (ne : id ≢ other). inr ((λ x. x), (h.0, kept names s.tables.outbox other id ne ∙ h.1, h.2)))
    (same_or_other names id other)
record_step _ id at h = inr ((λ x. x), h)

pub purged_first : {c : Constants} {s s' : State} {es : List Event} (run : Run c s es s') (id : List ℕ) (at : ℕ) → Has s id at → PurgedFirst id (at + c.settings.retention) run
purged_first ends id at h = tt
purged_first {c = c} (goes {mid = mid} step rest) id at h =
    ⊎_elim
    (λ (p : IsPurgeOf id (at + c.settings.retention) step). inl p)
    (λ (k : (IsCommitOf id step → ⊥) × Has mid id at). inr (k.0, purged_first rest id at k.1))
    (record_step step id at h)

after_commit : {c : Constants} {s s' : State} {e : Event} (step : Step c s e s') (id : List ℕ) → IsCommitOf id step → Has s' id s.moment
after_commit {c = c} {s = s} (settle_commit {e = e} {plan = plan} looked there new verdict fresh room) id is =
    (commit_record c s e.envelope plan, ap (map.get (map.insert s.tables.outbox (id_of e.envelope) (commit_record c s e.envelope plan))) (sym is) ∙ at_same names s.tables.outbox (id_of e.envelope) (commit_record c s e.envelope plan), refl)
after_commit _ id is = absurd is

between : {c : Constants} {s s' : State} {es : List Event} (run : Run c s es s') → CommittedOnce run
between ends = tt
between {s = s} (goes step rest) = ((λ id is. purged_first rest id s.moment (after_commit step id is)), between rest)

pub once : {c : Constants} {s s' : State} {es : List Event} (run : Run c s es s') → Once run
once run = record { between = between run; opening = λ id r e. purged_first run id r.at (r, e, refl) }
