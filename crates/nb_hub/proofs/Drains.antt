-- What a state is asked: which entry is due next, and whether nothing is left to do.
use Rattle.std.proofs.Common.{◌≡◌, ◌↔◌, ℕ, ◌<◌, ◌≤◌, List, true, false, Bool, Option, Some, None, refl, sym, ap, ◌∙◌, ⊎_elim, arith}
use Rattle.std.specs.Prelude.{MatchOption, IsTrue, is_some}
use Rattle.nb_base.specs.declared.entry.Waiting.{Waiting}
use Rattle.nb_base.specs.declared.tables.Queued.{Queued}
use Rattle.nb_core.specs.Calls.{IsDue, Tells}
use Rattle.nb_core.specs.Drained.{Drained}
use Rattle.nb_core.specs.Standing.{Constants, number_of, entry, AllIdle, IsFree, IsLeastFree}
use Rattle.nb_core.specs.declared.state.State.{State}
use Rattle.nb_hub.proofs.Free.{least_found, none_free}
use Rattle.nb_hub.specs.Indexed.{IsIndexed}
use Rattle.nb_hub.specs.Kept.{AreHeld}
use Rattle.nb_queue.specs.Dues.{IsFirstWaiting}
use Rattle.nb_ready.specs.Seats.{Seats}
use Rattle.nb_ready.specs.Seats as seat

-- the first of the entries with a due is the next that is due
pub next_due : (s : State) (next : Option Waiting) → IsFirstWaiting s.post.entries next → IsDue s next
next_due s None first = first
next_due s (Some x) first = record { it = first.it; there = first.there; due_is = first.due_is; least = first.least }

-- nothing is due until then
abbrev pub IsLater : Option Waiting → ℕ → Type 0
IsLater next until = MatchOption next (Unit {0}) (λ (x : Waiting). until < x.due)

module _ (c : Constants) (s : State) (until : ℕ) where
  all_later : (next : Option Waiting) → IsFirstWaiting s.post.entries next → IsLater next until → (n : ℕ) (e : Queued) (due : ℕ) → entry s n ≡ Some e → e.due ≡ Some due → until < due
  all_later None first later n e due there is = let none : None ≡ Some due = sym (first n e there) ∙ is in absurd cc
  all_later (Some x) first later n e due there is =
      ⊎_elim
      (λ (before : x.due < due). omega arith)
      (λ (same : (x.due ≡ due) × (x.number ≤ n)). let eq = same.0 in omega arith)
      (first.least n e due there is)

  -- every worker is idle, no entry is free, and nothing is due until then
  pub drained : AllIdle s → ((n : ℕ) → IsFree c s n → ⊥) → (next : Option Waiting) → IsFirstWaiting s.post.entries next → IsLater next until → Drained c s until
  drained idle none next first later = record {
    idle = idle;
    empty = λ n e there ready. none n (record { it = e; there = there; ready = ready; unnamed = λ w names. let no_one : None ≡ Some n = sym (ap number_of (idle w)) ∙ names in absurd cc });
    later = all_later next first later;
  }

  pub not_idle : (AllIdle s → ⊥) → Drained c s until → ⊥
  not_idle busy d = busy d.idle

  pub not_empty : (n : ℕ) → IsLeastFree c s n → Drained c s until → ⊥
  not_empty n l d = d.empty n l.free.it l.free.there l.free.ready

  pub not_later : (next : Option Waiting) → IsFirstWaiting s.post.entries next → (IsLater next until → ⊥) → Drained c s until → ⊥
  not_later None first soon d = soon tt
  not_later (Some x) first soon d = soon (d.later x.number first.it x.due first.there first.due_is)

  -- what the last of the three tests says, where the others passed
  pub told : AllIdle s → ((n : ℕ) → IsFree c s n → ⊥) → (next : Option Waiting) → IsFirstWaiting s.post.entries next → (b : Bool) → IsTrue b ↔ IsLater next until → Tells c s until b
  told idle none next first true h = drained idle none next first (h.0 refl)
  told idle none next first false h = not_later next first (λ later. let no_one : false ≡ true = h.1 later in absurd cc)

-- what the index says of the free entries
module _ (c : Constants) (s : State) (own : List ℕ) (seats : Seats) (own_is : own ≡ c.settings.endpoint) (has : IsIndexed own s.post.entries seats) (held : AreHeld s.phases seats) where
  pub some_free : (o : Option ℕ) → is_some o ≡ true → seat.IsLeastFree seats o → (n : ℕ) × IsLeastFree c s n
  some_free None there l = absurd cc
  some_free (Some n) there l = (n, least_found c s own seats own_is has held n l)

  pub no_free : (o : Option ℕ) → is_some o ≡ false → seat.IsLeastFree seats o → (n : ℕ) → IsFree c s n → ⊥
  no_free None there l = none_free c s own seats own_is has held l
  no_free (Some n) there l = absurd cc
