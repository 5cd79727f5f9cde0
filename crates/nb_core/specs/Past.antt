-- Histories from one opening, and their states.
use Rattle.std.specs.Prelude.{ℕ, ◌+◌, List, [], ◌∷◌}
use Rattle.nb_base.specs.Meanings.{Meaning}
use Rattle.nb_base.specs.declared.settings.Settings.{Settings}
use Rattle.nb_core.specs.After.{run}
use Rattle.nb_core.specs.History.{Opening, History, opened}
use Rattle.nb_core.specs.Legal.{Legal, IsWithin}
use Rattle.nb_core.specs.State.{State, Constants}
use Rattle.nb_core.specs.Step.{Event, Take, Stop}

-- what never changes at a desk: the script's meaning, the settings, the greatest number of Takes, the opening, and the
-- counts of faults that the two stores had at the opening
pub record Fixed : Type 0 where
  pub meaning : Meaning
  pub settings : Settings
  pub turns : ℕ
  pub opening : Opening
  pub base_faults : ℕ
  pub post_faults : ℕ

abbrev pub constants : Fixed → Constants
constants f = record { meaning = f.meaning; settings = f.settings }

abbrev pub history : Fixed → List Event → History
history f es = record { opening = f.opening; events = es }

-- the state after these events
abbrev pub state_after : Fixed → List Event → State
state_after f es = run (constants f) (opened f.opening) es

-- the history is legal and within its Takes, and leads to the state that is computed of it
pub record IsLegal (f : Fixed) (es : List Event) : Type 0 where
  pub legal : Legal (constants f) (history f es) (state_after f es)
  pub within : IsWithin f.turns es

-- the Takes since the last Stop, where so many came before
abbrev pub taken : ℕ → List Event → ℕ
taken n [] = n
taken n (Take w ∷ es) = taken (n + 1) es
taken n (Stop moment ∷ es) = taken 0 es
taken n (e ∷ es) = taken n es

abbrev pub takes : List Event → ℕ
takes es = taken 0 es
