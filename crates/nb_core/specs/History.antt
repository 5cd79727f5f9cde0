-- Histories: the events from an opening on, and what they handled.
use Rattle.std.specs.Prelude.{◌+◌, List, [], ◌∷◌, ◌++◌}
use Rattle.std.specs.FinMap as map
use Rattle.nb_base.specs.declared.entry.Op.{Op}
use Rattle.nb_base.specs.declared.tables.Discard.{Discard}
use Rattle.nb_recover.specs.declared.fail.Fail.TheVariants as fail
use Rattle.nb_core.specs.Serve.{HandledAt}
use Rattle.nb_core.specs.Stale.{conflict_on}
use Rattle.nb_core.specs.State.{State, Constants, base, commit_ops, fails, given_up, move_after}
use Rattle.nb_core.specs.Step.{Event, Step, settle_fault, settle_conflict, settle_commit}
pub use Rattle.nb_core.specs.declared.history.Opening.{Opening}
pub use Rattle.nb_core.specs.declared.history.History.{History}

-- the events lead from the first state to the last, each by a step
pub data Run (c : Constants) : State → List Event → State → Type 0 where
  ends : {s : State} → Run c s [] s
  goes : {s mid s' : State} {e : Event} {es : List Event} → Step c s e mid → Run c mid es s' → Run c s (e ∷ es) s'

-- the state of an opening: all workers are idle, nothing failed, nothing was put back or given up
abbrev pub opened : Opening → State
opened o =
    record { tables = o.tables; post = o.post; moment = o.moment; phases = map.empty; fails = map.empty; back = map.empty; discarded = [] }

-- the message that a step commits, with the moment
abbrev pub commit_by : {c : Constants} {s s' : State} {e : Event} → Step c s e s' → List HandledAt
commit_by {s = s} (settle_commit {e = e} looked there new verdict fresh room) = record { envelope = e.envelope; at = s.moment } ∷ []
commit_by _ = []

-- and the ops that it records
abbrev pub batch_by : {c : Constants} {s s' : State} {e : Event} → Step c s e s' → List (List Op)
batch_by {c = c} {s = s} (settle_commit {e = e} {plan = plan} looked there new verdict fresh room) = commit_ops c s e.envelope plan ∷ []
batch_by _ = []

-- the message that a step gives up, with the failure's name
abbrev pub discard_by : {c : Constants} {s s' : State} {e : Event} → Step c s e s' → List Discard
discard_by {c = c} {s = s} (settle_fault {n = n} {e = e} {f = f} looked there new verdict) =
    given_up e.envelope (fail.Fault f) (move_after c.settings (fails s n + 1) e.envelope (fail.Fault f))
discard_by {c = c} {s = s} (settle_conflict {n = n} {e = e} {r = r} looked there new verdict stale) =
    given_up e.envelope (conflict_on (base s) r) (move_after c.settings (fails s n + 1) e.envelope (conflict_on (base s) r))
discard_by _ = []

-- of a run: the messages that it committed, their batches, and the messages that it gave up, all in order
abbrev pub commits : {c : Constants} {s s' : State} {es : List Event} → Run c s es s' → List HandledAt
commits ends = []
commits (goes step rest) = commit_by step ++ commits rest

abbrev pub batches : {c : Constants} {s s' : State} {es : List Event} → Run c s es s' → List (List Op)
batches ends = []
batches (goes step rest) = batch_by step ++ batches rest

abbrev pub discards : {c : Constants} {s s' : State} {es : List Event} → Run c s es s' → List Discard
discards ends = []
discards (goes step rest) = discard_by step ++ discards rest

-- these events, from this opening on
abbrev pub from : Opening → List Event → History
from o events = record { opening = o; events = events }
