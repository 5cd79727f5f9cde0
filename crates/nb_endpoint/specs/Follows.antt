-- The history of a command.
use Rattle.std.specs.Prelude.{◌≡◌, ◌⊎◌, ℕ, ◌+◌, ◌≤◌, ◌<◌, min, List, [], ◌∷◌, ◌++◌, length, take}
use Rattle.nb_base.specs.declared.entry.Which.{Which}
use Rattle.nb_core.specs.After.{run}
use Rattle.nb_core.specs.History.{opened}
use Rattle.nb_core.specs.Legal.{Legal, IsWithin}
use Rattle.nb_core.specs.Paced.{Paced, loads}
use Rattle.nb_core.specs.Standing.{Constants}
use Rattle.nb_core.specs.declared.event.Event.{Event}
use Rattle.nb_core.specs.declared.event.Event.TheVariants.{Halt}
use Rattle.nb_core.specs.declared.history.History.{History}
use Rattle.nb_core.specs.declared.state.State.{State}
use Rattle.nb_endpoint.specs.Asked.{Asked}
use Rattle.nb_endpoint.specs.declared.status.Status.{Status}
use Rattle.nb_endpoint.specs.declared.status.Status.TheVariants.{Done, NotDrained, WriteFault}
use Rattle.nb_eval.specs.Meanings.{meaning_of}
use Rattle.nb_hub.specs.Returnable.{returnable}
use Rattle.nb_pump.specs.Drains.{KeepsLimit}
use Rattle.nb_pump.specs.Plans.{loads_of, returns_of, purges_of}
use Rattle.nb_store.specs.Lookups.{purgeable}
use Rattle.nb_words.specs.declared.words.Command.{Command}
use Rattle.nb_words.specs.declared.words.Command.TheVariants.{Run, Show, Retry, Purge, Sample}
use Rattle.nb_words.specs.declared.words.Words.{Words as Said}

-- the script's meaning, and the settings
abbrev pub constants_of : Asked → Constants
constants_of a = record { meaning = meaning_of a.items; settings = a.settings }

-- the state to which a history leads
abbrev pub state_in : Asked → History → State
state_in a h = run (constants_of a) (opened h.opening) h.events

-- the moment until which what is due is handled: one and the horizon, or the last one
abbrev pub until_after : ℕ → Said → ℕ
until_after moment said = min (moment + said.horizon) 253402300799

-- from the moment on at which the history opens
abbrev pub until_of : Asked → History → ℕ
until_of a h = until_after h.opening.moment a.said

-- the history is legal and within the Takes that are allowed; it opens at the moment that was asked for, with so many
-- workers
pub record Begins (workers : ℕ) (a : Asked) (h : History) : Type 0 where
  pub moment : h.opening.moment ≡ a.moment
  pub crew : h.opening.workers ≡ workers
  pub legal : Legal (constants_of a) h (state_in a h)
  pub within : IsWithin a.said.turns h.events

-- nothing, or the Halt of a store that failed
abbrev pub IsHaltAtMost : List Event → Type 0
IsHaltAtMost es = (es ≡ []) ⊎ ((store : Which) × (es ≡ Halt store ∷ []))

-- with this status the work is done as far as it may be
abbrev pub IsThrough : Status → Type 0
IsThrough Done = Unit {0}
IsThrough (NotDrained takes) = Unit {0}
IsThrough WriteFault = Unit {0}
IsThrough _ = ⊥

-- The messages are loaded, and what is due is handled in pace. Where not all of them are loaded, there follows at most a
-- Halt. No Tick and no Release comes behind the last Take that is allowed.
pub record RunEvents (a : Asked) (status : Status) (h : History) : Type 0 where
  pub count : ℕ
  pub bound : count ≤ length a.messages
  pub loaded : loads h.events ≡ take count a.messages
  pub paced : Paced (constants_of a) (until_of a h) h
  pub all : IsThrough status → count ≡ length a.messages
  pub short : count < length a.messages → (stop : List Event) × (h.events ≡ loads_of (take count a.messages) ++ stop) × IsHaltAtMost stop
  pub limit : KeepsLimit a.said.turns 0 h.events

-- the events of a plan, all of them or a beginning, and at most a Halt
pub record PlanEvents (plan : List Event) (status : Status) (h : History) : Type 0 where
  pub done : List Event
  pub left : List Event
  pub stop : List Event
  pub split : plan ≡ done ++ left
  pub events : h.events ≡ done ++ stop
  pub halts : IsHaltAtMost stop
  pub all : IsThrough status → (left ≡ []) × (stop ≡ [])

abbrev pub FollowsAs : Command → Asked → Status → History → Type 0
FollowsAs Run a status h = RunEvents a status h
FollowsAs Show a status h = h.events ≡ []
FollowsAs Retry a status h = PlanEvents (returns_of (returnable (constants_of a) (opened h.opening))) status h
FollowsAs Purge a status h = PlanEvents (purges_of (purgeable h.opening.tables a.settings.retention h.opening.moment)) status h
FollowsAs Sample a status h = ⊥

-- the events of the command
abbrev pub Follows : Asked → Status → History → Type 0
Follows a status h = FollowsAs a.said.command a status h
