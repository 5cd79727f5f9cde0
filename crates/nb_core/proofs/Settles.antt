-- What a look and a settlement lead to, and where a settlement is impossible.
use Rattle.std.proofs.Common.{◌≡◌, ◌≤◌, ℕ, Bool, true, false, Some, None, Option, refl, sym, ap, ◌∙◌, subst, arith, List, []}
use Rattle.nb_base.specs.Messages.{Message}
use Rattle.nb_base.specs.Shown.{AreFresh}
use Rattle.nb_base.specs.Sound.{limit}
use Rattle.nb_base.specs.declared.entry.OutboxRow.{OutboxRow}
use Rattle.nb_base.specs.declared.plan.Fault.{Fault}
use Rattle.nb_base.specs.declared.plan.Outcome.{Outcome}
use Rattle.nb_base.specs.declared.plan.Plan.{Plan}
use Rattle.nb_base.specs.declared.plan.Verdict.TheVariants as verdict
use Rattle.nb_base.specs.declared.saga_row.Read.{Read}
use Rattle.nb_base.specs.declared.tables.Queued.{Queued}
use Rattle.nb_headers.specs.Reads.{id_of}
use Rattle.nb_recover.specs.declared.fail.Fail.{Fail}
use Rattle.nb_recover.specs.declared.fail.Fail.TheVariants as fail
use Rattle.nb_core.proofs.Stales.{least_stale_is, fresh_is}
use Rattle.nb_core.specs.Conflicts.{Conflicts}
use Rattle.nb_core.specs.Stale.{conflict_on}
use Rattle.nb_core.specs.State.{State, Constants, Phase, Idle, Held, Looked, Sending, Leaving, Done, phase, entry, recorded, base, number_of, phase_by, at_phase, failed, committed}
use Rattle.nb_core.specs.Step.{Step, Look, Settle, look_known, look_new, settle_twin, settle_fault, settle_conflict, settle_commit}
use Rattle.nb_core.specs.Tried.{IsImpossible, Tried, CommitsBy, IsNewOutcome, LooksAt, phase_found, phase_known}
use Rattle.nb_core.specs.declared.settling.LookedAt.{LookedAt}

some_same : {A : Type 0} {x y : A} → Some x ≡ Some y → x ≡ y
some_same e = cc

none_some : {A : Type 0} {x : A} → None ≡ Some x → ⊥
none_some e = cc

-- ---- Look

pub look_made : (c : Constants) (s : State) (w n : ℕ) (e : Queued) (p : Phase) (t : State) → phase s w ≡ Held n → entry s n ≡ Some e
    → p ≡ phase_found c s n e.envelope (recorded s (id_of e.envelope)) → t ≡ at_phase s w p → Step c s (Look w) t
look_made c s w n e p t held there is made = subst (Step c s (Look w)) (sym (made ∙ ap (at_phase s w) is)) (go (recorded s (id_of e.envelope)) refl)
  where
    go : (o : Option OutboxRow) → recorded s (id_of e.envelope) ≡ o → Step c s (Look w) (at_phase s w (phase_found c s n e.envelope o))
    go None new = look_new held there new
    go (Some r) known = look_known held there known

-- ---- Settle, of a message that is recorded

pub twin_made : (c : Constants) (s : State) (w : ℕ) (x : LookedAt) (p : Phase) (t : State) → LooksAt s w (Some x)
    → Some p ≡ phase_known x.number x.envelope (recorded s (id_of x.envelope)) → t ≡ at_phase s w p → Step c s (Settle w) t
twin_made c s w x p t at is made = go (recorded s (id_of x.envelope)) refl is
  where
    go : (o : Option OutboxRow) → recorded s (id_of x.envelope) ≡ o → Some p ≡ phase_known x.number x.envelope o → Step c s (Settle w) t
    go None new same = absurd (none_some (sym same))
    go (Some r) known same =
        subst (Step c s (Settle w))
        (ap (λ (m : Message). at_phase s w (phase_by r.sent x.number (id_of m) r.ops)) at.3 ∙ ap (at_phase s w) (sym (some_same same)) ∙ sym made)
        (settle_twin at.1 at.2 (ap (λ (m : Message). recorded s (id_of m)) at.3 ∙ known))

pub is_new : (n : ℕ) (m : Message) (o : Option OutboxRow) → None ≡ phase_known n m o → o ≡ None
is_new n m None is = refl
is_new n m (Some r) is = absurd (none_some is)

-- what a settlement needs
settle_needs : {c : Constants} {s : State} {w : ℕ} {t : State} → Step c s (Settle w) t → (n : ℕ) × (reads : List Read) × (e : Queued) × (phase s w ≡ Looked n reads) × (entry s n ≡ Some e)
settle_needs (settle_twin {n = n} {reads = reads} {e = e} looked there known) = (n, reads, e, looked, there)
settle_needs (settle_fault {n = n} {reads = reads} {e = e} looked there new judged) = (n, reads, e, looked, there)
settle_needs (settle_conflict {n = n} {reads = reads} {e = e} looked there new judged stale) = (n, reads, e, looked, there)
settle_needs (settle_commit {n = n} {reads = reads} {e = e} looked there new judged fresh room) = (n, reads, e, looked, there)

pub settle_not : (c : Constants) (s : State) (w : ℕ) → LooksAt s w None → IsImpossible c s (Settle w)
settle_not c s w never t step = let p = settle_needs step in never p.0 p.1 p.2 p.3 p.4

-- ---- Settle, by the verdict

abbrev reads_in : Phase → List Read
reads_in Idle = []
reads_in (Held n) = []
reads_in (Looked n reads) = reads
reads_in (Sending n id ops k) = []
reads_in (Leaving n queue due copy) = []
reads_in (Done n) = []

fault_done : {f : Fault} {plan : Plan} → verdict.Fault f ≡ verdict.Done plan → ⊥
fault_done e = cc

module _ (c : Constants) (s : State) (w n : ℕ) (m : Message) (o : Outcome) (x : IsNewOutcome c s w n m o) where
  new_here : recorded s (id_of x.it.envelope) ≡ None
  new_here = ap (λ (y : Message). recorded s (id_of y)) x.message_is ∙ x.new

  judged_here : c.meaning.on_reads o.reads x.it.envelope s.moment ≡ o.verdict
  judged_here = ap (λ (y : Message). c.meaning.on_reads o.reads y s.moment) x.message_is ∙ sym x.verdict_is

  pub fault_made : (f : Fault) (t : State) → o.verdict ≡ verdict.Fault f → t ≡ failed c s w n m (fail.Fault f) → Step c s (Settle w) t
  fault_made f t is made =
      subst (Step c s (Settle w)) (ap (λ (y : Message). failed c s w n y (fail.Fault f)) x.message_is ∙ sym made)
      (settle_fault x.looked x.there new_here (judged_here ∙ is))

  pub conflict_made : (plan : Plan) (why : Fail) (t : State) → o.verdict ≡ verdict.Done plan → Conflicts (base s) o.reads (Some why) → t ≡ failed c s w n m why → Step c s (Settle w) t
  conflict_made plan why t is stale made =
      subst (Step c s (Settle w))
      (ap (λ (y : Message). failed c s w n y (conflict_on (base s) stale.0)) x.message_is ∙ ap (failed c s w n m) (sym stale.2) ∙ sym made)
      (settle_conflict x.looked x.there new_here (judged_here ∙ is) stale.1)

  -- the worker looked for one entry, with the same reads
  same_entry : (k : ℕ) (reads : List Read) (e : Queued) → phase s w ≡ Looked k reads → entry s k ≡ Some e → e ≡ x.it
  same_entry k reads e looked there = some_same (sym there ∙ ap (entry s) (some_same (ap number_of (sym looked ∙ x.looked))) ∙ x.there)

  same_reads : (k : ℕ) (reads : List Read) → phase s w ≡ Looked k reads → reads ≡ o.reads
  same_reads k reads looked = ap reads_in (sym looked ∙ x.looked)

  spent : (plan : Plan) → o.verdict ≡ verdict.Done plan → AreFresh (base s) o.reads → limit ≤ s.tables.commits → IsImpossible c s (Settle w)
  spent plan is fresh full t (settle_twin {n = k} {reads = reads} {e = e} looked there known) =
      none_some (sym new_here ∙ ap (λ (y : Queued). recorded s (id_of y.envelope)) (sym (same_entry k reads e looked there)) ∙ known)
  spent plan is fresh full t (settle_fault {n = k} {reads = reads} {e = e} looked there new judged) =
      fault_done (sym judged ∙ (λ i. c.meaning.on_reads (same_reads k reads looked i) (same_entry k reads e looked there i).envelope s.moment) ∙ judged_here ∙ is)
  spent plan is fresh full t (settle_conflict {n = k} {reads = reads} {r = r} looked there new judged stale) =
      none_some (sym (fresh_is (base s) o.reads fresh) ∙ ap (Rattle.nb_core.specs.Stale.least_stale (base s)) (sym (same_reads k reads looked)) ∙ least_stale_is (base s) reads r stale)
  spent plan is fresh full t (settle_commit looked there new judged fresh' room) = absurd (omega arith)

  pub commit_made : (plan : Plan) (t : State) (b : Bool) → o.verdict ≡ verdict.Done plan → Conflicts (base s) o.reads None → CommitsBy c s w n m plan t b → Tried c s (Settle w) t b
  commit_made plan t true is fresh made =
      subst (Step c s (Settle w)) (ap (λ (y : Message). committed c s w n y plan) x.message_is ∙ sym made.1)
      (settle_commit x.looked x.there new_here (judged_here ∙ is) fresh made.0)
  commit_made plan t false is fresh full = spent plan is fresh full
