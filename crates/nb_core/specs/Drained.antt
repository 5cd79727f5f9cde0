-- A state in which nothing is left to do until a moment.
use Rattle.std.specs.Prelude.{◌≡◌, ◌⊎◌, ℕ, ◌<◌, ◌≤◌, Some, None}
use Rattle.nb_base.specs.declared.tables.Queued.{Queued}
use Rattle.nb_core.specs.State.{State, Constants, entry, AllIdle, IsReady}

-- every worker is idle, the own queue is empty, and nothing is due until then
pub record Drained (c : Constants) (s : State) (until : ℕ) : Type 0 where
  pub idle : AllIdle s
  pub empty : (n : ℕ) (e : Queued) → entry s n ≡ Some e → IsReady c.settings e → ⊥
  pub later : (n : ℕ) (e : Queued) (due : ℕ) → entry s n ≡ Some e → e.due ≡ Some due → until < due

-- the entry is delayed until then, no other is due earlier, and of those due then it has the least number
pub record IsNextDue (s : State) (n due : ℕ) : Type 0 where
  pub it : Queued
  pub there : entry s n ≡ Some it
  pub due_is : it.due ≡ Some due
  pub least : (other : ℕ) (e : Queued) (d : ℕ) → entry s other ≡ Some e → e.due ≡ Some d → (due < d) ⊎ ((due ≡ d) × (n ≤ other))

-- no entry is delayed
abbrev pub NothingDue : State → Type 0
NothingDue s = (n : ℕ) (e : Queued) → entry s n ≡ Some e → e.due ≡ None
