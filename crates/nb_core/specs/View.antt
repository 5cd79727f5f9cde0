-- What a caller of a desk sees, and which events are of others.
use Rattle.std.specs.Prelude.{◌≡◌, ℕ, ◌+◌, ◌<◌, List, [], ◌∷◌, ◌==◌, if◌then◌else◌}
use Rattle.nb_core.specs.Past.{Fixed, state_after}
use Rattle.nb_core.specs.declared.state.State.{State}
use Rattle.nb_core.specs.Step.{Event, Load, Take, Look, Settle, Send, Mark, Aside, Remove, Tick, Release, Purge, PutBack, DropBack, Stop, Halt}

-- What one caller of a desk sees: what never changes, the history so far, the positions in it of this caller's own
-- events, and the workers that are this caller's.
pub record View : Type 0 where
  pub fixed : Fixed
  pub events : List Event
  pub mine : List ℕ
  pub workers : List ℕ

abbrev pub state_of : View → State
state_of v = state_after v.fixed v.events

-- how often a number stands in a list
abbrev pub times : ℕ → List ℕ → ℕ
times x [] = 0
times x (y ∷ ys) = (if y == x then 1 else 0) + times x ys

-- the worker is the caller's
abbrev pub Owns : View → ℕ → Type 0
Owns v w = (w < v.fixed.opening.workers) × (0 < times w v.workers)

-- and so is every worker
abbrev pub OwnsAll : View → Type 0
OwnsAll v = (w : ℕ) → w < v.fixed.opening.workers → 0 < times w v.workers

-- an event of others than these workers' caller
abbrev pub Foreign : List ℕ → Event → Type 0
Foreign ws (Load m) = Unit {0}
Foreign ws (Take w) = times w ws ≡ 0
Foreign ws (Look w) = times w ws ≡ 0
Foreign ws (Settle w) = times w ws ≡ 0
Foreign ws (Send w) = times w ws ≡ 0
Foreign ws (Mark w) = times w ws ≡ 0
Foreign ws (Aside w) = times w ws ≡ 0
Foreign ws (Remove w) = times w ws ≡ 0
Foreign ws (Tick to) = ws ≡ []
Foreign ws (Release n) = ws ≡ []
Foreign ws (Purge id) = ws ≡ []
Foreign ws (PutBack n) = ws ≡ []
Foreign ws (DropBack n) = ws ≡ []
Foreign ws (Stop moment) = ⊥
Foreign ws (Halt store) = Unit {0}
