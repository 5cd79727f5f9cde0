-- What a hub keeps between its calls.
use Rattle.std.specs.Prelude.{◌≡◌, ◌↔◌, ℕ, ◌≤◌, ◌<◌, ◌^◌, List, [], ◌∷◌, length, true, Option, Some, None}
use Rattle.nb_base.specs.Causes.{Rose}
use Rattle.nb_base.specs.Meanings.{IsMeaning}
use Rattle.nb_base.specs.Orders.{ByNumber}
use Rattle.nb_base.specs.declared.entry.Which.{Which}
use Rattle.nb_base.specs.declared.entry.Which.TheVariants.{Base, Post}
use Rattle.nb_base.specs.declared.tables.Discard.{Discard}
use Rattle.nb_base.specs.declared.tables.PostState.{PostState}
use Rattle.nb_base.specs.declared.tables.Tables.{Tables}
use Rattle.nb_core.specs.Calls.{Called, View, whole}
use Rattle.nb_core.specs.Past.{Fixed, IsLegal}
use Rattle.nb_core.specs.Standing.{number_of, phase_in}
use Rattle.nb_core.specs.declared.event.Event.{Event}
use Rattle.nb_core.specs.declared.event.Event.TheVariants.{Load, Take, Look, Settle, Send, Mark, Aside, Remove, Tick, Release, Purge, PutBack, DropBack, Stop, Halt}
use Rattle.nb_core.specs.declared.call.Answer.{Answer}
use Rattle.nb_core.specs.declared.call.Call.{Call}
use Rattle.nb_core.specs.declared.phase.Phase.{Phase}
use Rattle.nb_core.specs.declared.state.State.{State}
use Rattle.nb_hub.specs.Ledgers.{Past, state_at}
use Rattle.nb_ready.specs.Seats.{Seats, Has}
use Rattle.nb_ready.specs.declared.seat.Seat.{Seat}

-- some worker's phase names the entry
abbrev pub IsNamed : ByNumber Phase → ℕ → Type 0
IsNamed phases n = (w : ℕ) × (number_of (phase_in phases w) ≡ Some n)

-- an indexed entry is held just where some worker's phase names it
abbrev pub AreHeld : ByNumber Phase → Seats → Type 0
AreHeld phases seats = (n : ℕ) (s : Seat) → Has seats n s → (s.held ≡ true) ↔ IsNamed phases n

-- the state of what is in the tables, in the queues and in memory
abbrev pub held_state : Tables → PostState → ℕ → ByNumber Phase → ByNumber ℕ → ByNumber (Unit {0}) → List Discard → State
held_state tables post moment phases fails back discarded =
    record { tables = tables; post = post; moment = moment; phases = phases; fails = fails; back = back; discarded = discarded }

-- the store that an event says to have failed
abbrev pub failing : Event → Option Which
failing (Load m) = None
failing (Take w) = None
failing (Look w) = None
failing (Settle w) = None
failing (Send w) = None
failing (Mark w) = None
failing (Aside w) = None
failing (Remove w) = None
failing (Tick to) = None
failing (Release n) = None
failing (Purge id) = None
failing (PutBack n) = None
failing (DropBack n) = None
failing (Stop moment) = None
failing (Halt store) = Some store

-- the store whose Halt ends the events; o says so of those before them
abbrev pub failed_after : Option Which → List Event → Option Which
failed_after o [] = o
failed_after o (e ∷ es) = failed_after (failing e) es

abbrev pub failed_store : List Event → Option Which
failed_store es = failed_after None es

-- the counts of faults never fall below those at the opening, and the one of a store that failed is above it
pub record Counted (f : Fixed) (es : List Event) (base post : ℕ) : Type 0 where
  pub base_later : f.base_faults ≤ base
  pub post_later : f.post_faults ≤ post
  pub base_rose : failed_store es ≡ Some Base → Rose f.base_faults base
  pub post_rose : failed_store es ≡ Some Post → Rose f.post_faults post

-- what is held is the state of the history
pub record Kept (p : Past) (s : State) (own : List ℕ) (seats : Seats) (base post : ℕ) : Type 0 where
  pub means : IsMeaning p.fixed.meaning
  pub legal : IsLegal p.fixed p.events
  pub state : s ≡ state_at p
  pub own_is : own ≡ p.fixed.settings.endpoint
  pub held : AreHeld s.phases seats
  pub short : length s.discarded < 2 ^ 32
  pub counted : Counted p.fixed p.events base post

-- what the one caller sees
abbrev pub seen : Past → View
seen p = whole p.fixed p.events

-- a call of the hub with its answer, from one history to the next
abbrev pub Makes : Call → Answer → Past → Past → Type 0
Makes x answer p q = Called x answer (whole p.fixed p.events) (whole q.fixed q.events)
