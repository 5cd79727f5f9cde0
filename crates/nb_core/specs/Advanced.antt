-- What a replay that goes on by one event tells.
use Rattle.std.specs.Prelude.{◌≡◌, ℕ, ◌∷◌, [], Bool, true, false}
use Rattle.nb_core.specs.Legal.{IsOfWorker, MayFollow, TakesFrom, is_halt}
use Rattle.nb_core.specs.Past.{taken}
use Rattle.nb_core.specs.State.{State, Constants}
use Rattle.nb_core.specs.Step.{Event, Step}
use Rattle.nb_core.specs.declared.replaying.Progress.{Progress}

-- the event may come next, and leads to this state
pub record Comes (c : Constants) (turns workers : ℕ) (p : Progress) (e : Event) (t : State) : Type 0 where
  pub worker : IsOfWorker workers e
  pub halts : MayFollow p.halted (e ∷ [])
  pub takes : TakesFrom turns p.taken (e ∷ [])
  pub step : Step c p.state e t

-- the replay went on by the event, or it may not come
abbrev pub Advanced : Constants → ℕ → ℕ → Progress → Event → Progress → Bool → Type 0
Advanced c turns workers p e q true = Comes c turns workers p e q.state × (q.halted ≡ is_halt e) × (q.taken ≡ taken p.taken (e ∷ []))
Advanced c turns workers p e q false = (t : State) → Comes c turns workers p e t → ⊥
