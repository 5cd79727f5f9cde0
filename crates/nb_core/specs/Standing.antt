-- What stands in a state.
use Rattle.std.specs.Prelude.{◌≡◌, ◌≢◌, ℕ, ◌≤◌, ◌<◌, List, Option, Some, None}
use Rattle.std.specs.Option.{unwrap_or}
use Rattle.std.specs.FinMap as map
use Rattle.nb_base.specs.Meanings.{Meaning}
use Rattle.nb_base.specs.Orders.{ByNumber}
use Rattle.nb_base.specs.Shown.{Stored, stored}
use Rattle.nb_base.specs.Sound.{limit}
use Rattle.nb_base.specs.declared.entry.OutboxRow.{OutboxRow}
use Rattle.nb_base.specs.declared.settings.Settings.{Settings}
use Rattle.nb_base.specs.declared.tables.Queued.{Queued}
use Rattle.nb_core.specs.declared.state.State.{State}
use Rattle.nb_core.specs.declared.phase.Phase.{Phase}
use Rattle.nb_core.specs.declared.phase.Phase.TheVariants.{Idle, Held, Looked, Sending, Leaving, Done}

-- what never changes: the meaning of the script, and the settings
pub record Constants : Type 0 where
  pub meaning : Meaning
  pub settings : Settings

-- the phase of a worker, where these are the phases
abbrev pub phase_in : ByNumber Phase → ℕ → Phase
phase_in phases w = unwrap_or (map.get phases w) Idle

abbrev pub phase : State → ℕ → Phase
phase s w = phase_in s.phases w

-- how often an entry failed
abbrev pub fails_in : ByNumber ℕ → ℕ → ℕ
fails_in fails n = unwrap_or (map.get fails n) 0

abbrev pub fails : State → ℕ → ℕ
fails s n = fails_in s.fails n

abbrev pub entry : State → ℕ → Option Queued
entry s n = map.get s.post.entries n

abbrev pub recorded : State → List ℕ → Option OutboxRow
recorded s id = map.get s.tables.outbox id

-- the sagas, the rows and the number of commits
abbrev pub base : State → Stored
base s = stored s.tables

-- the entry that a phase names
abbrev pub number_of : Phase → Option ℕ
number_of Idle = None
number_of (Held n) = Some n
number_of (Looked n reads) = Some n
number_of (Sending n id ops k) = Some n
number_of (Leaving n queue due copy) = Some n
number_of (Done n) = Some n

abbrev pub AllIdle : State → Type 0
AllIdle s = (w : ℕ) → phase s w ≡ Idle

-- there is a number for one more entry
abbrev pub HasRoom : State → Type 0
HasRoom s = s.post.next < limit

-- the entry stands in the own queue
abbrev pub IsReady : Settings → Queued → Type 0
IsReady settings e = (e.queue ≡ settings.endpoint) × (e.due ≡ None)

-- the entry stands in the own queue, and no worker's phase names it
pub record IsFree (c : Constants) (s : State) (n : ℕ) : Type 0 where
  pub it : Queued
  pub there : entry s n ≡ Some it
  pub ready : IsReady c.settings it
  pub unnamed : (w : ℕ) → number_of (phase s w) ≢ Some n

pub record IsLeastFree (c : Constants) (s : State) (n : ℕ) : Type 0 where
  pub free : IsFree c s n
  pub least : (other : ℕ) → IsFree c s other → n ≤ other
