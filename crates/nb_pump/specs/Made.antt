-- Calls of a desk, one after another.
use Rattle.std.specs.Prelude.{◌≡◌, List, [], ◌∷◌, ◌++◌, length, All}
use Rattle.nb_core.specs.Calls.{View, Foreign, OwnsAll, places}
use Rattle.nb_core.specs.Past.{IsLegal}
use Rattle.nb_core.specs.declared.event.Event.{Event}

-- events of others, and then these own events at once
pub record Moved (v : View) (own : List Event) (w : View) : Type 0 where
  pub others : List Event
  pub foreign : All (Foreign v.workers) others
  pub alone : OwnsAll v → others ≡ []
  pub events : w.events ≡ (v.events ++ others) ++ own
  pub mine : w.mine ≡ v.mine ++ places (length (v.events ++ others)) own
  pub workers : w.workers ≡ v.workers
  pub fixed : w.fixed ≡ v.fixed
  pub legal : IsLegal w.fixed w.events

-- these own events, with events of others before, between and behind them
abbrev pub Made : View → List Event → View → Type 0
Made v [] w = Moved v [] w
Made v (e ∷ es) w = (u : View) × Moved v (e ∷ []) u × Made u es w
