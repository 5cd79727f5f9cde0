-- What every legal history comes to.
use Rattle.std.specs.Prelude.{◌≡◌, ◌⊎◌, ℕ, ◌≤◌, List, true, Some, None}
use Rattle.std.specs.FinMap as map
use Rattle.nb_base.specs.declared.entry.OutboxRow.{OutboxRow}
use Rattle.nb_base.specs.declared.tables.Queued.{Queued}
use Rattle.nb_headers.specs.Reads.{id_of}
use Rattle.nb_core.specs.Earned.{Earned}
use Rattle.nb_core.specs.History.{Run, commits, batches}
use Rattle.nb_core.specs.Ids.{Ids}
use Rattle.nb_core.specs.Once.{Once}
use Rattle.nb_core.specs.Pending.{Pending, since_first}
use Rattle.nb_core.specs.Placed.{Placed}
use Rattle.nb_core.specs.RunFacts.{since_at_end}
use Rattle.nb_core.specs.Sent.{Sent}
use Rattle.nb_core.specs.Serve.{Serial}
use Rattle.nb_core.specs.State.{State, Constants, base, recorded}
use Rattle.nb_core.specs.Step.{Event}

pub record Outcome {c : Constants} {s s' : State} {es : List Event} (run : Run c s es s') : Type 0 where
  pub serial : Serial c.meaning c.settings (base s) (commits run) (base s') (batches run)
  pub once : Once run
  pub placed : Placed run
  pub earned : Earned run
  pub sent : Sent run
  pub pending : Pending run
  pub ids : Ids run

-- At the end of the run what was committed since the last Stop is sent, and so is what was recorded before it, where an
-- entry with its id stood in the own queue then, or was delayed there and due at most until this moment.
pub record AreSent {c : Constants} {s s' : State} {es : List Event} (run : Run c s es s') (until : ℕ) : Type 0 where
  pub committed : (id : List ℕ) (r : OutboxRow) (n : ℕ) → recorded s' id ≡ Some r → (since_at_end (since_first s) run).committed_by id ≡ Some n → r.sent ≡ true
  pub older : (id : List ℕ) (r : OutboxRow) (n : ℕ) (e : Queued) → recorded s' id ≡ Some r → (since_at_end (since_first s) run).committed_by id ≡ None
      → map.get (since_at_end (since_first s) run).entries n ≡ Some e → e.queue ≡ c.settings.endpoint → id_of e.envelope ≡ id
      → (e.due ≡ None) ⊎ ((due : ℕ) × (e.due ≡ Some due) × (due ≤ until)) → r.sent ≡ true
