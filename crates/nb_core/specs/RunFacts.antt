-- What holds at the end of every legal run, of what came before.
use Rattle.std.specs.Prelude.{◌≡◌, ◌≢◌, ◌⊎◌, ℕ, ◌+◌, ◌≤◌, List, [], ◌∷◌, ◌++◌, take, Option, Some, None}
use Rattle.std.specs.FinMap as map
use Rattle.nb_base.specs.Messages.{Message}
use Rattle.nb_base.specs.declared.entry.Op.{Op}
use Rattle.nb_base.specs.declared.tables.Queued.{Queued}
use Rattle.nb_headers.specs.Reads.{id_of, failed_queue}
use Rattle.nb_recover.specs.declared.fail.Fail.TheVariants.{Fault}
use Rattle.nb_core.specs.Stale.{conflict_on}
use Rattle.nb_core.specs.Earned.{Attempt, Traced, at_number, attempt, attempts_on, last_on, traced_at_first, traced_after}
use Rattle.nb_core.specs.Facts.{Holding, ReadWell, SendsRight}
use Rattle.nb_core.specs.History.{Run, ends, goes, commits, discards}
use Rattle.nb_core.specs.Pending.{Since, since_first, since_after, Calm}
use Rattle.nb_core.specs.Placed.{IsHandled, IsRecorded, IsDiscarded}
use Rattle.nb_core.specs.State.{State, Constants, Sending, Leaving, Done, phase, phase_after, entry, base, fails, IsFree}
use Rattle.nb_core.specs.Step.{Event, Step, look_known, settle_twin, settle_fault, settle_conflict, settle_commit, send, aside, stop}

-- ---- what is observed along a run

abbrev pub traced_at_end : {c : Constants} {s s' : State} {es : List Event} → Traced → Run c s es s' → Traced
traced_at_end t ends = t
traced_at_end t (goes step rest) = traced_at_end (traced_after t step) rest

abbrev pub since_at_end : {c : Constants} {s s' : State} {es : List Event} → Since → Run c s es s' → Since
since_at_end t ends = t
since_at_end t (goes step rest) = since_at_end (since_after t step) rest

-- the failed attempts since the last Stop, the last one first
abbrev pub recent_after : {c : Constants} {s s' : State} {e : Event} → List Attempt → Step c s e s' → List Attempt
recent_after {c = c} {s = s} xs (settle_fault {n = n} {e = e} {f = f} looked there new verdict) = attempt c s n e.envelope (Fault f) ∷ xs
recent_after {c = c} {s = s} xs (settle_conflict {n = n} {e = e} {r = r} looked there new verdict stale) = attempt c s n e.envelope (conflict_on (base s) r) ∷ xs
recent_after xs stop = []
recent_after xs _ = xs

abbrev pub recent_at_end : {c : Constants} {s s' : State} {es : List Event} → List Attempt → Run c s es s' → List Attempt
recent_at_end xs ends = xs
recent_at_end xs (goes step rest) = recent_at_end (recent_after xs step) rest

-- what each worker put since it began to send
abbrev pub puts_after : {c : Constants} {s s' : State} {e : Event} → (ℕ → List Op) → Step c s e s' → ℕ → List Op
puts_after t (look_known {w = w} held there known) = at_number t w []
puts_after t (settle_twin {w = w} looked there known) = at_number t w []
puts_after t (settle_commit {w = w} looked there new verdict fresh room) = at_number t w []
puts_after t (send {w = w} {op = op} sending at room) = at_number t w (t w ++ op ∷ [])
puts_after t _ = t

abbrev pub puts_at_end : {c : Constants} {s s' : State} {es : List Event} → (ℕ → List Op) → Run c s es s' → ℕ → List Op
puts_at_end t ends = t
puts_at_end t (goes step rest) = puts_at_end (puts_after t step) rest

-- the entry that a step puts aside
abbrev pub IsAsideOf : {c : Constants} {s s' : State} {e : Event} → ℕ → Step c s e s' → Type 0
IsAsideOf {s = s} n (aside leaving room) = n ≡ s.post.next
IsAsideOf n _ = ⊥

-- some step put the entry aside
abbrev pub IsPutAside : {c : Constants} {s s' : State} {es : List Event} → ℕ → Run c s es s' → Type 0
IsPutAside n ends = ⊥
IsPutAside n (goes step rest) = IsAsideOf n step ⊎ IsPutAside n rest

-- ---- the facts

-- another entry with this id, which an Aside put, is delayed in the own queue, or stands in the error queue and wasn't put back
pub record HasCopy {c : Constants} {s s' : State} {es : List Event} (run : Run c s es s') (n : ℕ) (id : List ℕ) : Type 0 where
  pub number : ℕ
  pub other : number ≢ n
  pub it : Queued
  pub there : entry s' number ≡ Some it
  pub id_is : id_of it.envelope ≡ id
  pub put : IsPutAside number run
  pub stands :
      ((it.queue ≡ c.settings.endpoint) × ((due : ℕ) × (it.due ≡ Some due)))
      ⊎ ((it.queue ≡ c.settings.error) × (it.due ≡ None) × (failed_queue it.envelope ≡ c.settings.endpoint) × (map.get s'.back number ≡ None))

-- why the entry of a `Done` phase may go
pub data MayGo {c : Constants} {s s' : State} {es : List Event} (run : Run c s es s') (n : ℕ) (id : List ℕ) : Type 0 where
  handled : IsHandled id (commits run) → MayGo run n id
  recorded_before : IsRecorded s id → MayGo run n id
  discarded : IsDiscarded id (discards run) → MayGo run n id
  copied : HasCopy run n id → MayGo run n id

-- the phase is the one that the move of the last failed attempt on the entry gave
pub record IsGiven (c : Constants) (t : Traced) (n : ℕ) (p : Rattle.nb_core.specs.State.Phase) : Type 0 where
  pub attempt : Attempt
  pub last : last_on t.attempts n ≡ Some attempt
  pub given : p ≡ phase_after c.settings attempt.at n attempt.envelope attempt.fail attempt.move

pub record Facts {c : Constants} {s s' : State} {es : List Event} (run : Run c s es s') : Type 0 where
  pub looked : (w : ℕ) → ReadWell c (base s') s'.post.entries (phase s' w)
  pub sending : (w n : ℕ) (id : List ℕ) (ops : List Op) (k : ℕ) → phase s' w ≡ Sending n id ops k → SendsRight s' n id ops k × (puts_at_end (λ v. []) run w ≡ take k ops)
  pub done : (w n : ℕ) → phase s' w ≡ Done n → (e : Queued) × (entry s' n ≡ Some e) × MayGo run n (id_of e.envelope)
  pub holding : Holding c.settings s'.phases s'.post.entries
  pub calm : (w : ℕ) → Calm c.settings (since_at_end (since_first s) run) s'.tables.outbox (phase s' w)
  pub counts : (n : ℕ) (e : Queued) → entry s' n ≡ Some e → fails s' n ≡ attempts_on (recent_at_end [] run) n
  pub free : (n : ℕ) → IsFree c s' n → fails s' n ≤ c.settings.immediate
  pub leaving : (w n : ℕ) (queue : List ℕ) (due : Option ℕ) (copy : Message) → phase s' w ≡ Leaving n queue due copy → IsGiven c (traced_at_end (traced_at_first s) run) n (Leaving n queue due copy)
  pub parents : (n p : ℕ) (e : Queued) → entry s' n ≡ Some e → e.queue ≡ c.settings.endpoint → (traced_at_end (traced_at_first s) run).parent n ≡ Some p
      → (c.settings.immediate + 1 ≤ attempts_on (traced_at_end (traced_at_first s) run).attempts p)
      × ((traced_at_end (traced_at_first s) run).round n ≡ (traced_at_end (traced_at_first s) run).round p + 1)
  pub back : (n : ℕ) → map.get s'.back n ≡ Some tt → (e : Queued) × (entry s' n ≡ Some e) × (e.queue ≡ c.settings.error)
