-- A Settle of a message that is recorded, and what the others rest on.
use Rattle.std.proofs.Common.{◌≡◌, ℕ, List, [], ◌∷◌, Bool, true, false, Option, Some, None, Ok, refl, sym, ap, ◌∙◌, subst}
use Rattle.nb_base.specs.declared.plan.Fault.{Fault}
use Rattle.nb_base.specs.declared.plan.Outcome.{Outcome}
use Rattle.nb_base.specs.declared.plan.Plan.{Plan}
use Rattle.nb_base.specs.declared.plan.Verdict.{Verdict}
use Rattle.nb_base.specs.declared.plan.Verdict.TheVariants as verdict
use Rattle.nb_base.specs.declared.saga_row.Read.{Read}
use Rattle.nb_base.specs.declared.tables.Queued.{Queued}
use Rattle.nb_cells.specs.Cells.{CellMap}
use Rattle.nb_core.proofs.Held.{number_by}
use Rattle.nb_core.specs.Calls.{FailsBy, Gives, Ready}
use Rattle.nb_core.specs.Changes.{at_phase}
use Rattle.nb_core.specs.Conflicts.{Conflicts}
use Rattle.nb_core.specs.Legal.{halted}
use Rattle.nb_core.specs.Settling.{by_fault, by_conflict}
use Rattle.nb_core.specs.Standing.{base, entry, number_of, phase}
use Rattle.nb_core.specs.Step.{Step, settle_twin}
use Rattle.nb_core.specs.declared.answers.Settled.TheVariants as settled
use Rattle.nb_core.specs.declared.call.Answer.{Answer}
use Rattle.nb_core.specs.declared.call.Answer.TheVariants as answer
use Rattle.nb_core.specs.declared.call.Call.{Call}
use Rattle.nb_core.specs.declared.call.Call.TheVariants as call
use Rattle.nb_core.specs.declared.event.Event.TheVariants.{Settle}
use Rattle.nb_core.specs.declared.phase.Phase.{Phase}
use Rattle.nb_core.specs.declared.phase.Phase.TheVariants.{Looked}
use Rattle.nb_core.specs.declared.state.State.{State}
use Rattle.nb_hub.specs.Kept.{Kept, seen}
use Rattle.nb_hub.specs.Ledgers.{Past, past, state_at, constants_at, Comes}
use Rattle.nb_hub.specs.Looking.{Recorded}
use Rattle.nb_hub.specs.Served.{Served}
use Rattle.nb_hub.specs.Settling.{Judged, FailsNow, CommitsNow}
use Rattle.nb_hub.specs.declared.looking.Known.{Known}
use Rattle.nb_ready.specs.Seats.{Seats}
use Rattle.nb_recover.specs.declared.fail.Fail.{Fail}
use Rattle.nb_recover.specs.declared.fail.Fail.TheVariants as fail

number_same : {n m : ℕ} {reads others : List Read} → Looked n reads ≡ Looked m others → n ≡ m
number_same e = cc

some_same : {A : Type 0} {x y : A} → Some x ≡ Some y → x ≡ y
some_same e = cc

module _ (p : Past) (s : State) (own : List ℕ) (seats : Seats) (b q : ℕ) (k : Kept p s own seats b q) (w n : ℕ) (o : Outcome) (ready : Ready (call.Settle w o) (seen p)) (looked : (reads : List Read) × (phase s w ≡ Looked n reads)) (e : Queued) (there : entry s n ≡ Some e) (on : halted p.events ≡ false) where
  looked_now : phase (state_at p) w ≡ Looked n looked.0
  looked_now = ap (λ (z : State). phase z w) (sym k.state) ∙ looked.1

  there_now : entry (state_at p) n ≡ Some e
  there_now = ap (λ (z : State). entry z n) (sym k.state) ∙ there

  same_number : ready.1.number ≡ n
  same_number = number_same (sym ready.1.looked ∙ looked_now)

  same_entry : ready.1.it ≡ e
  same_entry = some_same (sym ready.1.there ∙ ap (entry (state_at p)) same_number ∙ there_now)

  outcome_looked : phase (state_at p) w ≡ Looked n o.reads
  outcome_looked = ready.1.looked ∙ ap (λ i. Looked i o.reads) same_number

  -- its message is recorded
  module _ (found : Option Known) (x : Known) (is : found ≡ Some x) (r : Recorded s.tables n e.envelope found) where
    known_now : Recorded (state_at p).tables n e.envelope (Some x)
    known_now = subst (λ (z : State). Recorded z.tables n e.envelope (Some x)) k.state (subst (Recorded s.tables n e.envelope) is r)

    pub twin_comes : Comes (past p.fixed p.events true) (Settle w) (at_phase (state_at p) w x.phase)
    twin_comes = record {
      room = refl;
      on = on;
      worker = ready.0.0;
      turn = tt;
      step = subst (λ (z : Phase). Step (constants_at p) (state_at p) (Settle w) (at_phase (state_at p) w z)) (sym known_now.2) (settle_twin outcome_looked there_now known_now.1);
    }

    pub twin_gives : Gives p.fixed p.events (call.Settle w o) (answer.Settled (Ok (settled.Twin x.sent))) (Settle w ∷ [])
    twin_gives = (refl, record { number = n; reads = o.reads; it = e; looked = outcome_looked; there = there_now; holds = (known_now.0, known_now.1, sym known_now.3) })

    pub twin_names : number_of (phase s w) ≡ number_of x.phase
    twin_names = ap number_of looked.1 ∙ sym (ap number_of known_now.2 ∙ number_by known_now.0.sent n _ known_now.0.ops)

  -- it isn't
  pub judged : (found : Option Known) → found ≡ None → Recorded s.tables n e.envelope found → (p1 : Past) → p1 ≡ past p.fixed p.events true → Judged p1 w n o.reads o.verdict
  judged found is r p1 begun = subst (λ (z : Past). Judged z w n o.reads o.verdict) (sym begun) (record {
    at = record {
      begun = record { room = refl; on = on };
      worker = ready.0.0;
      it = e;
      looked = outcome_looked;
      there = there_now;
      new = subst (λ (z : State). Recorded z.tables n e.envelope None) k.state (subst (Recorded s.tables n e.envelope) is r);
    };
    verdict_is = ap (λ (y : Queued). (constants_at p).meaning.on_reads o.reads y.envelope (state_at p).moment) (sym same_entry) ∙ sym ready.1.verdict_is;
  })

module _ (p : Past) (w n : ℕ) (reads : List Read) (v : Verdict) (j : Judged p w n reads v) where
  pub fault_fails : (f : Fault) → v ≡ verdict.Fault f → FailsNow p w n (fail.Fault f)
  fault_fails f is = record { reads = reads; at = j.at; by = by_fault (j.verdict_is ∙ is) }

  pub conflict_fails : (plan : Plan) (why : Fail) → v ≡ verdict.Done plan → Conflicts (base (state_at p)) reads (Some why) → FailsNow p w n why
  conflict_fails plan why is stale = record {
    reads = reads;
    at = j.at;
    by = subst (FailsBy (constants_at p) (state_at p) reads j.at.it.envelope) (sym stale.2) (by_conflict (j.verdict_is ∙ is) stale.1);
  }

  pub fresh_commits : (plan : Plan) → v ≡ verdict.Done plan → Conflicts (base (state_at p)) reads None → CommitsNow p w n plan
  fresh_commits plan is fresh = record { reads = reads; at = j.at; planned = j.verdict_is ∙ is; fresh = fresh }

-- a call that goes on where there is room for its event
pub served_begun : {P D : Type 0} (bh : D → Type 0) (bn bi : D → CellMap → Type 0) (bf : D → Type 0) (bc : D → ℕ) (ph : P → Type 0) (pn pi : P → CellMap → Type 0) (pf : P → Type 0) (pc : P → ℕ) (x : Call) (a : Answer) (p p1 q : Past) (room : Bool) (d d' : D) (c c' : P)
    → p1 ≡ past p.fixed p.events room → Served bh bn bi bf bc ph pn pi pf pc x a p1 q d d' c c' → Served bh bn bi bf bc ph pn pi pf pc x a p q d d' c c'
served_begun bh bn bi bf bc ph pn pi pf pc x a p p1 q room d d' c c' begun h =
    let k = subst (λ (z : Past). Served bh bn bi bf bc ph pn pi pf pc x a z q d d' c c') begun h in
    record { call = k.call; base = k.base; post = k.post; base_before = k.base_before; post_before = k.post_before; base_rose = k.base_rose; post_rose = k.post_rose }
