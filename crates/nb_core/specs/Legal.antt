-- Legal histories.
use Rattle.std.specs.Prelude.{◌≡◌, Bool, true, false, ℕ, ◌+◌, ◌<◌, max, List, [], ◌∷◌, ◌++◌, Some}
use Rattle.std.specs.List.{AllByRecursion}
use Rattle.nb_base.specs.Meanings.{IsAmong, AllFit}
use Rattle.nb_base.specs.Shown.{stored}
use Rattle.nb_base.specs.Sound.{IsSoundTables, IsSoundPost}
use Rattle.nb_dispatch.specs.Dispatches.{route_of}
use Rattle.nb_core.specs.State.{State, Constants}
use Rattle.nb_core.specs.Step.{Event, Load, Take, Look, Settle, Send, Mark, Aside, Remove, Tick, Release, Purge, PutBack, DropBack, Stop, Halt}
use Rattle.nb_core.specs.History.{Opening, History, Run, opened}

-- the settings have a route for each message that the script sends
abbrev pub HasRoutes : Constants → Type 0
HasRoutes c = (name : List ℕ) → IsAmong name c.meaning.sends → (queue : List ℕ) × (route_of c.settings.routes name ≡ Some queue)

-- the stores are sound, and the stored sagas fit the script
pub record IsSound (c : Constants) (o : Opening) : Type 0 where
  pub tables : IsSoundTables o.tables
  pub post : IsSoundPost o.post
  pub fits : AllFit c.meaning (stored o.tables)

-- a worker's event is one of a worker below this number
abbrev pub IsOfWorker : ℕ → Event → Type 0
IsOfWorker n (Load m) = Unit {0}
IsOfWorker n (Take w) = w < n
IsOfWorker n (Look w) = w < n
IsOfWorker n (Settle w) = w < n
IsOfWorker n (Send w) = w < n
IsOfWorker n (Mark w) = w < n
IsOfWorker n (Aside w) = w < n
IsOfWorker n (Remove w) = w < n
IsOfWorker n (Tick to) = Unit {0}
IsOfWorker n (Release number) = Unit {0}
IsOfWorker n (Purge id) = Unit {0}
IsOfWorker n (PutBack number) = Unit {0}
IsOfWorker n (DropBack number) = Unit {0}
IsOfWorker n (Stop moment) = Unit {0}
IsOfWorker n (Halt store) = Unit {0}

abbrev pub is_halt : Event → Bool
is_halt (Load m) = false
is_halt (Take w) = false
is_halt (Look w) = false
is_halt (Settle w) = false
is_halt (Send w) = false
is_halt (Mark w) = false
is_halt (Aside w) = false
is_halt (Remove w) = false
is_halt (Tick to) = false
is_halt (Release n) = false
is_halt (Purge id) = false
is_halt (PutBack n) = false
is_halt (DropBack n) = false
is_halt (Stop moment) = false
is_halt (Halt store) = true

-- Is a Halt the last of these events? b says so of those before them.
abbrev pub halted_after : Bool → List Event → Bool
halted_after b [] = b
halted_after b (e ∷ es) = halted_after (is_halt e) es

abbrev pub halted : List Event → Bool
halted es = halted_after false es

-- after a Halt comes nothing but a Stop; b says whether a Halt came just before
abbrev pub MayFollow : Bool → List Event → Type 0
MayFollow b [] = Unit {0}
MayFollow false (e ∷ es) = MayFollow (is_halt e) es
MayFollow true (Stop moment ∷ es) = MayFollow false es
MayFollow true (e ∷ es) = ⊥

abbrev pub StopsAfterHalt : List Event → Type 0
StopsAfterHalt es = MayFollow false es

-- the history is legal, and this is its state
pub record Legal (c : Constants) (h : History) (s : State) : Type 0 where
  pub routes : HasRoutes c
  pub sound : IsSound c h.opening
  pub workers : AllByRecursion (IsOfWorker h.opening.workers) h.events
  pub halts : StopsAfterHalt h.events
  pub run : Run c (opened h.opening) h.events s

-- at most so many Takes before the first Stop, between two and after the last; `taken` of them came already
abbrev pub TakesFrom : ℕ → ℕ → List Event → Type 0
TakesFrom turns taken [] = Unit {0}
TakesFrom turns taken (Take w ∷ es) = (taken < turns) × TakesFrom turns (taken + 1) es
TakesFrom turns taken (Stop moment ∷ es) = TakesFrom turns 0 es
TakesFrom turns taken (e ∷ es) = TakesFrom turns taken es

abbrev pub IsWithin : ℕ → List Event → Type 0
IsWithin turns es = TakesFrom turns 0 es

-- the second history after the first, with a Stop between them
abbrev pub joined : History → History → History
joined first second =
    record {
      opening = record first.opening { workers = max first.opening.workers second.opening.workers };
      events = first.events ++ Stop second.opening.moment ∷ second.events;
    }
