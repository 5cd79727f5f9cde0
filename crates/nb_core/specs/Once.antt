-- Between two commits of one id there is a purge of it, at a moment not below the first one's plus the retention.
use Rattle.std.specs.Prelude.{◌≡◌, ◌⊎◌, ℕ, ◌+◌, ◌≤◌, List, Some}
use Rattle.nb_base.specs.declared.entry.OutboxRow.{OutboxRow}
use Rattle.nb_core.specs.History.{Run, ends, goes}
use Rattle.nb_core.specs.State.{State, Constants, recorded}
use Rattle.nb_core.specs.Step.{Event, Step, settle_commit, purge}
use Rattle.nb_headers.specs.Reads.{id_of}

abbrev pub IsCommitOf : {c : Constants} {s s' : State} {e : Event} → List ℕ → Step c s e s' → Type 0
IsCommitOf id (settle_commit {e = e} looked there new verdict fresh room) = (id_of e.envelope) ≡ id
IsCommitOf id _ = ⊥

-- a purge of the id at this moment or later
abbrev pub IsPurgeOf : {c : Constants} {s s' : State} {e : Event} → List ℕ → ℕ → Step c s e s' → Type 0
IsPurgeOf {s = s} id moment (purge {id = other} idle there sent old) = (other ≡ id) × (moment ≤ s.moment)
IsPurgeOf id moment _ = ⊥

-- a commit of the id comes only after a purge of it at this moment or later
abbrev pub PurgedFirst : {c : Constants} {s s' : State} {es : List Event} → List ℕ → ℕ → Run c s es s' → Type 0
PurgedFirst id moment ends = Unit {0}
PurgedFirst id moment (goes step rest) = IsPurgeOf id moment step ⊎ ((IsCommitOf id step → ⊥) × PurgedFirst id moment rest)

abbrev pub CommittedOnce : {c : Constants} {s s' : State} {es : List Event} → Run c s es s' → Type 0
CommittedOnce ends = Unit {0}
CommittedOnce {c = c} {s = s} (goes step rest) =
    ((id : List ℕ) → IsCommitOf id step → PurgedFirst id (s.moment + c.settings.retention) rest) × CommittedOnce rest

pub record Once {c : Constants} {s s' : State} {es : List Event} (run : Run c s es s') : Type 0 where
  pub between : CommittedOnce run
  pub opening : (id : List ℕ) (r : OutboxRow) → recorded s id ≡ Some r → PurgedFirst id (r.at + c.settings.retention) run
