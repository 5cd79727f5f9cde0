-- What a replay of events tells: the state, or where the history stops being legal.
use Rattle.std.specs.Prelude.{ℕ, ◌+◌, ◌<◌, take, length, Result, Ok, Err}
use Rattle.nb_base.specs.Meanings.{Meaning}
use Rattle.nb_base.specs.declared.settings.Settings.{Settings}
use Rattle.nb_core.specs.History.{History, from}
use Rattle.nb_core.specs.Legal.{Legal, IsWithin}
use Rattle.nb_core.specs.State.{State, Constants}
use Rattle.nb_core.specs.declared.replaying.ReplayFault.{ReplayFault}
use Rattle.nb_core.specs.declared.replaying.ReplayFault.TheVariants.{Illegal, NoMemory}

abbrev pub constants_of : Meaning → Settings → Constants
constants_of meaning settings = record { meaning = meaning; settings = settings }

-- the history is legal, with this state, and within its Takes
pub record IsAllowed (c : Constants) (turns : ℕ) (h : History) (s : State) : Type 0 where
  pub legal : Legal c h s
  pub within : IsWithin turns h.events

-- the first n events of a history
abbrev pub first : ℕ → History → History
first n h = from h.opening (take n h.events)

-- the history isn't legal, and the event with this index, counted from 0, is the first with which it stops being so
pub record StopsAt (c : Constants) (turns : ℕ) (h : History) (index : ℕ) : Type 0 where
  pub there : index < length h.events
  pub before : (s : State) × IsAllowed c turns (first index h) s
  pub with_it : (s : State) → IsAllowed c turns (first (index + 1) h) s → ⊥
  pub whole : (s : State) → IsAllowed c turns h s → ⊥

abbrev pub Replayed : Constants → ℕ → History → Result State ReplayFault → Type 0
Replayed c turns h (Ok s) = IsAllowed c turns h s
Replayed c turns h (Err (Illegal index)) = StopsAt c turns h index
Replayed c turns h (Err NoMemory) = Unit {0}
