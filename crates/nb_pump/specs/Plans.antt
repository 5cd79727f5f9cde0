-- What is done at a desk at rest, event after event: messages are loaded, what failed is put back, records are purged.
use Rattle.std.specs.Prelude.{◌≡◌, ◌≢◌, ℕ, List, [], ◌∷◌, ◌++◌, false, map, slice_get, Some, Result, Ok, Err}
use Rattle.nb_base.specs.Messages.{Message}
use Rattle.nb_core.specs.Calls.{View, state_of, CanReturn, CanPurge}
use Rattle.nb_core.specs.Legal.{halted}
use Rattle.nb_core.specs.Past.{constants, takes}
use Rattle.nb_core.specs.declared.answers.DeskFault.{DeskFault}
use Rattle.nb_core.specs.declared.event.Event.{Event}
use Rattle.nb_core.specs.declared.state.State.{State}
use Rattle.nb_core.specs.declared.event.Event.TheVariants.{Load, Take, Look, Settle, Send, Mark, Aside, Remove, Tick, Release, Purge, PutBack, DropBack, Stop, Halt}
use Rattle.nb_pump.specs.Drains.{Standing}
use Rattle.nb_core.specs.Spent.{IsPostSpent}
use Rattle.nb_pump.specs.Leases.{stop_of}
use Rattle.nb_pump.specs.Stops.{StopsBy}
use Rattle.nb_pump.specs.Made.{Made}

-- the Halt behind which nothing comes, where a store failed
abbrev pub stop_by : Result (Unit {0}) DeskFault → List Event
stop_by (Ok u) = []
stop_by (Err f) = stop_of f

-- the event puts an entry, which takes the next number
abbrev pub PutsEntry : Event → Type 0
PutsEntry (Load m) = Unit {0}
PutsEntry (Take w) = ⊥
PutsEntry (Look w) = ⊥
PutsEntry (Settle w) = ⊥
PutsEntry (Send w) = Unit {0}
PutsEntry (Mark w) = ⊥
PutsEntry (Aside w) = Unit {0}
PutsEntry (Remove w) = ⊥
PutsEntry (Tick to) = ⊥
PutsEntry (Release n) = ⊥
PutsEntry (Purge id) = ⊥
PutsEntry (PutBack n) = Unit {0}
PutsEntry (DropBack n) = ⊥
PutsEntry (Stop moment) = ⊥
PutsEntry (Halt store) = ⊥

-- the next event that is left puts an entry, and no number is left for it
abbrev pub NeedsEntry : List Event → State → Type 0
NeedsEntry [] s = ⊥
NeedsEntry (e ∷ es) s = PutsEntry e × IsPostSpent s

-- nothing of the plan is left, and all are at rest again; or there was a fault
abbrev pub GoesEnd : Result (Unit {0}) DeskFault → List Event → List Event → View → View → Type 0
GoesEnd (Ok u) own left v w =
    (left ≡ []) × Standing w × (halted w.events ≡ false) × ((state_of w).moment ≡ (state_of v).moment) × (takes w.events ≡ takes v.events)
GoesEnd (Err f) own left v w = StopsBy (NeedsEntry left (state_of w)) f v own w

-- a fault leaves something of the plan
abbrev pub LeavesSome : Result (Unit {0}) DeskFault → List Event → Type 0
LeavesSome (Ok u) left = Unit {0}
LeavesSome (Err f) left = left ≢ []

-- the events of a plan were made, in order: all of them, or those before a fault
pub record Goes (plan : List Event) (r : Result (Unit {0}) DeskFault) (v w : View) : Type 0 where
  pub done : List Event
  pub left : List Event
  pub split : plan ≡ done ++ left
  pub made : Made v (done ++ stop_by r) w
  pub some : LeavesSome r left
  pub end : GoesEnd r (done ++ stop_by r) left v w

-- each message is loaded
abbrev pub loads_of : List Message → List Event
loads_of ms = map Load ms

-- each entry is put back, and then removed from the error queue
abbrev pub returns_of : List ℕ → List Event
returns_of [] = []
returns_of (n ∷ ns) = PutBack n ∷ DropBack n ∷ returns_of ns

-- each record is purged
abbrev pub purges_of : List (List ℕ) → List Event
purges_of ids = map Purge ids

-- each of them stands once in the list
abbrev pub StandOnce : {A : Type 0} → List A → Type 0
StandOnce xs = (i j : ℕ) (x : _) → slice_get xs i ≡ Some x → slice_get xs j ≡ Some x → i ≡ j

-- each entry can be put back
abbrev pub CanReturnAll : View → List ℕ → Type 0
CanReturnAll v ns = (i n : ℕ) → slice_get ns i ≡ Some n → CanReturn (constants v.fixed) (state_of v) n

-- each record can be purged
abbrev pub CanPurgeAll : View → List (List ℕ) → Type 0
CanPurgeAll v ids = (i : ℕ) (id : List ℕ) → slice_get ids i ≡ Some id → CanPurge (constants v.fixed) (state_of v) id
