-- Histories in the pace of a drain: the Loads, and then, as long as something is due until a moment, the Releases of what is
-- due, the turns of the workers, and a Tick.
use Rattle.std.specs.Prelude.{◌≡◌, ℕ, ◌<◌, ◌≤◌, max, List, [], ◌∷◌, Some}
use Rattle.nb_base.specs.Messages.{Message}
use Rattle.nb_base.specs.declared.entry.Which.{Which}
use Rattle.nb_base.specs.declared.tables.Queued.{Queued}
use Rattle.nb_core.specs.After.{after}
use Rattle.nb_core.specs.Drained.{IsNextDue}
use Rattle.nb_core.specs.History.{History, opened}
use Rattle.nb_core.specs.State.{State, Constants, entry, IsReady}
use Rattle.nb_core.specs.Step.{Event, Load, Take, Look, Settle, Send, Mark, Aside, Remove, Tick, Release, Purge, PutBack, DropBack, Stop, Halt}

-- an event of a worker, or a Halt
abbrev pub IsOfTurn : Event → Type 0
IsOfTurn (Load m) = ⊥
IsOfTurn (Take w) = Unit {0}
IsOfTurn (Look w) = Unit {0}
IsOfTurn (Settle w) = Unit {0}
IsOfTurn (Send w) = Unit {0}
IsOfTurn (Mark w) = Unit {0}
IsOfTurn (Aside w) = Unit {0}
IsOfTurn (Remove w) = Unit {0}
IsOfTurn (Tick to) = ⊥
IsOfTurn (Release n) = ⊥
IsOfTurn (Purge id) = ⊥
IsOfTurn (PutBack n) = ⊥
IsOfTurn (DropBack n) = ⊥
IsOfTurn (Stop moment) = ⊥
IsOfTurn (Halt store) = Unit {0}

-- no entry stands in the own queue
abbrev pub IsOwnEmpty : Constants → State → Type 0
IsOwnEmpty c s = (n : ℕ) (e : Queued) → entry s n ≡ Some e → IsReady c.settings e → ⊥

-- no entry is due at most the moment
abbrev pub AllReleased : State → Type 0
AllReleased s = (n : ℕ) (e : Queued) (due : ℕ) → entry s n ≡ Some e → e.due ≡ Some due → s.moment < due

-- what comes next: Loads, the Releases of all that is due, or the events of workers
pub data Mode : Type 0 where
  loading : Mode
  releasing : Mode
  working : Mode

pub data Pace (c : Constants) (until : ℕ) : Mode → State → List Event → Type 0 where
  ended : {mode : Mode} {s : State} → Pace c until mode s []
  load : {s : State} {m : Message} {es : List Event} → Pace c until loading (after c s (Load m)) es → Pace c until loading s (Load m ∷ es)
  loaded : {s : State} {es : List Event} → Pace c until releasing s es → Pace c until loading s es
  -- what is due first, and of several then due the least number, is released first
  release : {s : State} {n due : ℕ} {es : List Event} → IsNextDue s n due → due ≤ s.moment → Pace c until releasing (after c s (Release n)) es → Pace c until releasing s (Release n ∷ es)
  cut_off : {s : State} {store : Which} → Pace c until releasing s (Halt store ∷ [])
  released : {s : State} {es : List Event} → AllReleased s → Pace c until working s es → Pace c until releasing s es
  work : {s : State} {e : Event} {es : List Event} → IsOfTurn e → Pace c until working (after c s e) es → Pace c until working s (e ∷ es)
  -- to the later of the moment and the least due
  tick : {s : State} {n due to : ℕ} {es : List Event} → IsOwnEmpty c s → IsNextDue s n due → due ≤ until → to ≡ max s.moment due → Pace c until releasing (after c s (Tick to)) es → Pace c until working s (Tick to ∷ es)

abbrev pub Paced : Constants → ℕ → History → Type 0
Paced c until h = Pace c until loading (opened h.opening) h.events

-- the messages of the Loads, in order
abbrev pub loads : List Event → List Message
loads [] = []
loads (Load m ∷ es) = m ∷ loads es
loads (e ∷ es) = loads es
