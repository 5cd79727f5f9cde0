-- Where a number that is needed next stands at its end.
use Rattle.std.specs.Prelude.{◌≡◌, ℕ, ◌<◌, ◌≤◌, length, Some}
use Rattle.nb_base.specs.Sound.{limit}
use Rattle.nb_base.specs.declared.tables.Queued.{Queued}
use Rattle.nb_core.specs.Settling.{Commits}
use Rattle.nb_core.specs.Standing.{Constants, phase, entry}
use Rattle.nb_core.specs.declared.phase.Phase.{Phase}
use Rattle.nb_core.specs.declared.phase.Phase.TheVariants.{Idle, Held, Looked, Sending, Leaving, Done}
use Rattle.nb_core.specs.declared.state.State.{State}

-- no number is left for one more entry
abbrev pub IsPostSpent : State → Type 0
IsPostSpent s = limit ≤ s.post.next

-- the next event of a worker in this phase needs a number, and none is left: a Settle that would commit, a Send, an Aside
abbrev pub NeedsNumber : Constants → State → Phase → Type 0
NeedsNumber c s Idle = ⊥
NeedsNumber c s (Held n) = ⊥
NeedsNumber c s (Looked n reads) = (limit ≤ s.tables.commits) × ((e : Queued) × (entry s n ≡ Some e) × Commits c s reads e.envelope)
NeedsNumber c s (Sending n id ops k) = (k < length ops) × IsPostSpent s
NeedsNumber c s (Leaving n queue due copy) = IsPostSpent s
NeedsNumber c s (Done n) = ⊥

-- the next event of the worker needs a number, and none is left
abbrev pub IsWorkerSpent : Constants → State → ℕ → Type 0
IsWorkerSpent c s w = NeedsNumber c s (phase s w)
