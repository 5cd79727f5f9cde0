-- What is kept of the workers of a stage, and what it says of them.
use Rattle.std.specs.Prelude.{◌≡◌, ℕ, true, false, Option, Some, None}
use Rattle.std.specs.FinMap as map
use Rattle.nb_base.specs.Meanings.{Meaning, IsShown}
use Rattle.nb_base.specs.Orders.{ByNumber}
use Rattle.nb_core.specs.Calls.{View, OwnsAll, IsOutcome, IsSending, IsLeaving, IsDone, state_of}
use Rattle.nb_core.specs.Past.{IsLegal, constants}
use Rattle.nb_core.specs.State.{phase}
use Rattle.nb_core.specs.declared.answers.Settled.{Settled}
use Rattle.nb_core.specs.declared.answers.Settled.TheVariants as settled
use Rattle.nb_core.specs.declared.phase.Phase.TheVariants.{Idle}
use Rattle.nb_pump.specs.Drains.{Rests}
use Rattle.nb_pump.specs.Leases.{HoldsMessage}
use Rattle.nb_schedule.specs.declared.seat.Seat.{Seat}
use Rattle.nb_schedule.specs.declared.seat.Seat.TheVariants.{Held, Looked, Sending, Leaving, Done, Lost}

-- the seats after a change of one; an idle worker isn't there
abbrev pub put_seat : ByNumber Seat → ℕ → Option Seat → ByNumber Seat
put_seat seats w None = map.remove seats w
put_seat seats w (Some x) = map.insert seats w x

-- the seats where what was kept of one worker is forgotten
abbrev pub left_at : ByNumber Seat → ℕ → Option Seat → ByNumber Seat
left_at seats w None = seats
left_at seats w (Some x) = map.insert seats w Lost

-- what a worker is at behind a Settle
abbrev pub seat_after : Settled → Option Seat
seat_after (settled.Committed n) = Some Sending
seat_after (settled.Twin true) = Some Done
seat_after (settled.Twin false) = Some Sending
seat_after (settled.Again f) = None
seat_after (settled.Later f) = Some Leaving
seat_after (settled.Error f) = Some Leaving
seat_after (settled.Discarded f) = Some Done

-- where a worker is, by what is kept of it
abbrev pub IsAt : ℕ → View → ℕ → Option Seat → Type 0
IsAt moment v w None = phase (state_of v) w ≡ Idle
IsAt moment v w (Some (Held m)) = HoldsMessage (state_of v) w m
IsAt moment v w (Some (Looked m reads)) =
    IsShown v.fixed.meaning m reads
    × IsOutcome (constants v.fixed) (state_of v) w (record { reads = reads; verdict = v.fixed.meaning.on_reads reads m moment })
IsAt moment v w (Some Sending) = (left : ℕ) × IsSending (state_of v) w left
IsAt moment v w (Some Leaving) = IsLeaving (state_of v) w
IsAt moment v w (Some Done) = IsDone (state_of v) w
IsAt moment v w (Some Lost) = Unit {0}

-- what is kept is so
pub record Staged (meaning : Meaning) (workers moment : ℕ) (seats : ByNumber Seat) (v : View) : Type 0 where
  pub owns : OwnsAll v
  pub legal : IsLegal v.fixed v.events
  pub meaning_is : v.fixed.meaning ≡ meaning
  pub workers_are : v.fixed.opening.workers ≡ workers
  pub now : (state_of v).moment ≡ moment
  pub at : (w : ℕ) → IsAt moment v w (map.get seats w)

-- nothing happened, and no store failed before
pub record IsOn (v w : View) : Type 0 where
  pub rests : Rests v w
  pub fixed : w.fixed ≡ v.fixed
  pub moment : (state_of w).moment ≡ (state_of v).moment
