-- The entries that wait for a moment, and the index of them.
use Rattle.std.specs.Prelude.{◌≡◌, ◌⊎◌, ℕ, ◌<◌, ◌≤◌, Option, Some, None, option_map}
use Rattle.std.specs.FinMap as map
use Rattle.nb_base.specs.Orders.{ByNumber}
use Rattle.nb_base.specs.declared.entry.Waiting.{Waiting}
use Rattle.nb_base.specs.declared.tables.PostState.{PostState}
use Rattle.nb_base.specs.declared.tables.Queued.{Queued}
use Rattle.nb_queue.specs.Stands.{IsPost}
use Rattle.nb_ready.specs.Seats.{Seats, fresh}
use Rattle.nb_ready.specs.declared.seat.Seat.{Seat}

-- the entry waits for this moment, no other one comes due earlier, and of those due then it has the least number
pub record IsFirst (entries : ByNumber Queued) (number due : ℕ) : Type 0 where
  pub it : Queued
  pub there : map.get entries number ≡ Some it
  pub due_is : it.due ≡ Some due
  pub least : (other : ℕ) (e : Queued) (d : ℕ) → map.get entries other ≡ Some e → e.due ≡ Some d → (due < d) ⊎ ((due ≡ d) × (number ≤ other))

-- the first of the entries with a due, or none where no entry has one
abbrev pub IsFirstWaiting : ByNumber Queued → Option Waiting → Type 0
IsFirstWaiting entries None = (number : ℕ) (e : Queued) → map.get entries number ≡ Some e → e.due ≡ None
IsFirstWaiting entries (Some w) = IsFirst entries w.number w.due

-- ---- the index

-- an entry with a due, as the index has it
abbrev pub seat_of : Option Queued → Option Seat
seat_of None = None
seat_of (Some e) = option_map (λ due. fresh (Some due)) e.due

-- the index has the entries with a due, and no other
abbrev pub HasDues : ByNumber Queued → Seats → Type 0
HasDues entries dues = (number : ℕ) → map.get dues number ≡ seat_of (map.get entries number)

-- the index with a number, where it has a due
abbrev pub noted : Seats → ℕ → Option ℕ → Seats
noted dues number None = dues
noted dues number (Some due) = map.insert dues number (fresh (Some due))

-- the index without a number, where it had a due
abbrev pub dropped : Seats → ℕ → Option ℕ → Seats
dropped dues number None = dues
dropped dues number (Some due) = map.remove dues number

-- what is kept of a post between calls
pub record IsKept (p : PostState) (dues : Seats) : Type 0 where
  pub post : IsPost p
  pub index : HasDues p.entries dues
