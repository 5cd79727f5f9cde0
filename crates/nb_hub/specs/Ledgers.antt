-- A history, with the room for one more event.
use Rattle.std.specs.Prelude.{◌≡◌, ℕ, ◌<◌, ◌^◌, List, [], ◌∷◌, ◌++◌, length, Bool, true, false, Result, Ok, Err}
use Rattle.nb_base.specs.Meanings.{Meaning, IsMeaning}
use Rattle.nb_base.specs.declared.settings.Settings.{Settings}
use Rattle.nb_core.specs.Facts.{StateFacts}
use Rattle.nb_core.specs.declared.history.Opening.{Opening}
use Rattle.nb_core.specs.Legal.{IsOfWorker, halted}
use Rattle.nb_core.specs.Past.{Fixed, IsLegal, constants, state_after, takes}
use Rattle.nb_core.specs.Standing.{Constants}
use Rattle.nb_core.specs.declared.event.Event.{Event}
use Rattle.nb_core.specs.declared.event.Event.TheVariants.{Load, Take, Look, Settle, Send, Mark, Aside, Remove, Tick, Release, Purge, PutBack, DropBack, Stop, Halt}
use Rattle.nb_core.specs.Step.{Step}
use Rattle.nb_core.specs.Tried.{CanSettle}
use Rattle.nb_core.specs.declared.answers.DeskFault.{DeskFault}
use Rattle.nb_core.specs.declared.answers.DeskFault.TheVariants.{StoreFailed, PostFailed, Spent, Halted, NoMemory}
use Rattle.nb_core.specs.declared.state.State.{State}
use Rattle.nb_hub.specs.declared.ledger.Course.{Course}

-- what never changes, the events so far, and whether there is room for one more
pub record Past : Type 0 where
  pub fixed : Fixed
  pub events : List Event
  pub room : Bool

abbrev pub past : Fixed → List Event → Bool → Past
past f es b = record { fixed = f; events = es; room = b }

abbrev pub fixed_of : Meaning → Settings → ℕ → Opening → ℕ → ℕ → Fixed
fixed_of meaning settings turns opening base post =
    record { meaning = meaning; settings = settings; turns = turns; opening = opening; base_faults = base; post_faults = post }

abbrev pub constants_at : Past → Constants
constants_at p = constants p.fixed

abbrev pub state_at : Past → State
state_at p = state_after p.fixed p.events

-- the history with one more event, and the room for it used
abbrev pub pushed : Past → Event → Past
pushed p e = past p.fixed (p.events ++ e ∷ []) false

-- what is kept beside the events: how many Takes they have, and whether a Halt ends them
pub record Keeps (es : List Event) (count : ℕ) (off : Bool) : Type 0 where
  pub count_is : count ≡ takes es
  pub off_is : off ≡ halted es
  pub short : length es < 2 ^ 32

abbrev pub course : Settings → ℕ → Opening → ℕ → ℕ → List Event → Bool → Course
course settings turns opening base post es room =
    record { settings = settings; turns = turns; opening = opening; base_faults = base; post_faults = post; events = es; room = room }

abbrev pub with_room : Course → Bool → Course
with_room c b = record c { room = b }

-- one more event, by which the room is used
abbrev pub with_event : Course → Event → Course
with_event c e = record c { events = c.events ++ e ∷ []; room = false }

-- the history under a meaning of the script
abbrev pub past_of : Meaning → Course → Past
past_of meaning c = past (fixed_of meaning c.settings c.turns c.opening c.base_faults c.post_faults) c.events c.room

-- what holds of every history that is kept, and of its state
pub record Standing (p : Past) : Type 0 where
  pub means : IsMeaning p.fixed.meaning
  pub legal : IsLegal p.fixed p.events
  pub facts : StateFacts (constants_at p) (state_at p)
  pub can : CanSettle (constants_at p) (state_at p)

-- whether one more event may begin: why it may not
abbrev pub Begins : List Event → Result (Unit {0}) DeskFault → Type 0
Begins es (Ok u) = halted es ≡ false
Begins es (Err StoreFailed) = ⊥
Begins es (Err PostFailed) = ⊥
Begins es (Err Spent) = ⊥
Begins es (Err Halted) = halted es ≡ true
Begins es (Err NoMemory) = halted es ≡ false

-- there is a Take left for the event, where it is one
abbrev pub HasTurn : Past → Event → Type 0
HasTurn p (Load m) = Unit {0}
HasTurn p (Take w) = takes p.events < p.fixed.turns
HasTurn p (Look w) = Unit {0}
HasTurn p (Settle w) = Unit {0}
HasTurn p (Send w) = Unit {0}
HasTurn p (Mark w) = Unit {0}
HasTurn p (Aside w) = Unit {0}
HasTurn p (Remove w) = Unit {0}
HasTurn p (Tick to) = Unit {0}
HasTurn p (Release n) = Unit {0}
HasTurn p (Purge id) = Unit {0}
HasTurn p (PutBack n) = Unit {0}
HasTurn p (DropBack n) = Unit {0}
HasTurn p (Stop moment) = Unit {0}
HasTurn p (Halt store) = Unit {0}

-- the event comes next, and leads to this state
pub record Comes (p : Past) (e : Event) (t : State) : Type 0 where
  pub room : p.room ≡ true
  pub on : halted p.events ≡ false
  pub worker : IsOfWorker p.fixed.opening.workers e
  pub turn : HasTurn p e
  pub step : Step (constants_at p) (state_at p) e t

-- an event that is no Take, no Stop and no Halt
abbrev pub IsQuiet : Event → Type 0
IsQuiet (Load m) = Unit {0}
IsQuiet (Take w) = ⊥
IsQuiet (Look w) = Unit {0}
IsQuiet (Settle w) = Unit {0}
IsQuiet (Send w) = Unit {0}
IsQuiet (Mark w) = Unit {0}
IsQuiet (Aside w) = Unit {0}
IsQuiet (Remove w) = Unit {0}
IsQuiet (Tick to) = Unit {0}
IsQuiet (Release n) = Unit {0}
IsQuiet (Purge id) = Unit {0}
IsQuiet (PutBack n) = Unit {0}
IsQuiet (DropBack n) = Unit {0}
IsQuiet (Stop moment) = ⊥
IsQuiet (Halt store) = ⊥
