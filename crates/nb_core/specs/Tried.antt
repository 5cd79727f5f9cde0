-- What the making of one event tells: it was made, or it is impossible.
use Rattle.std.specs.Prelude.{◌≡◌, ℕ, ◌≤◌, ◌<◌, List, Bool, true, false, Option, Some, None}
use Rattle.std.specs.FinMap as map
use Rattle.std.specs.List.{AllByRecursion}
use Rattle.nb_base.specs.Meanings.{IsShown}
use Rattle.nb_base.specs.Messages.{Message}
use Rattle.nb_base.specs.Shown.{Stored, seen}
use Rattle.nb_base.specs.Sound.{limit}
use Rattle.nb_base.specs.declared.entry.OutboxRow.{OutboxRow}
use Rattle.nb_base.specs.declared.plan.Outcome.{Outcome}
use Rattle.nb_base.specs.declared.plan.Plan.{Plan}
use Rattle.nb_base.specs.declared.plan.Verdict.TheVariants as verdict
use Rattle.nb_base.specs.declared.saga_row.Read.{Read}
use Rattle.nb_base.specs.declared.tables.Queued.{Queued}
use Rattle.nb_base.specs.declared.tables.Tables.{Tables}
use Rattle.nb_headers.specs.Faults.{stripped}
use Rattle.nb_headers.specs.Reads.{id_of, failed_queue}
use Rattle.nb_recover.specs.declared.returned.Returned.{Returned}
use Rattle.nb_dispatch.specs.Dispatches.{CanDispatch}
use Rattle.nb_core.specs.Ready.{CanRelease, CanReturn}
use Rattle.nb_core.specs.State.{State, Constants, Phase, Held, Looked, phase, entry, recorded, base, fails, phase_by, committed}
use Rattle.nb_core.specs.Step.{Event, Step}
use Rattle.nb_core.specs.declared.settling.LookedAt.{LookedAt}

-- no state comes after the event
abbrev pub IsImpossible : Constants → State → Event → Type 0
IsImpossible c s e = (t : State) → Step c s e t → ⊥

-- the event was made, or it is impossible
abbrev pub Tried : Constants → State → Event → State → Bool → Type 0
Tried c s e t true = Step c s e t
Tried c s e t false = IsImpossible c s e

-- the state with a worker's phase taken out
abbrev pub without : State → ℕ → State
without s w = record s { phases = map.remove s.phases w }

-- the entry without its due, where it is due now
abbrev pub Releases : State → ℕ → Option Queued → Type 0
Releases s n None = CanRelease s n → ⊥
Releases s n (Some x) = (r : CanRelease s n) × (x ≡ record r.0 { due = None })

-- what goes back from the error queue, where something does
abbrev pub Returns : Constants → State → ℕ → Option Returned → Type 0
Returns c s n None = CanReturn c s n → ⊥
Returns c s n (Some x) = (r : CanReturn c s n) × (x ≡ record { queue = failed_queue r.0.envelope; envelope = stripped r.0.envelope })

-- the tables with this part of them
abbrev pub with_stored : Tables → Stored → Tables
with_stored t x = record t { sagas = x.sagas; rows = x.rows; commits = x.commits }

-- the phase to which a record leads, where there is one
abbrev pub phase_known : ℕ → Message → Option OutboxRow → Option Phase
phase_known n m None = None
phase_known n m (Some r) = Some (phase_by r.sent n (id_of m) r.ops)

-- the phase of a worker after its look at an entry with this message
abbrev pub phase_found : Constants → State → ℕ → Message → Option OutboxRow → Phase
phase_found c s n m None = Looked n (seen (base s) (c.meaning.keys m))
phase_found c s n m (Some r) = phase_by r.sent n (id_of m) r.ops

-- the worker holds this entry, or none that it didn't look for yet
abbrev pub Holds : State → ℕ → Option ℕ → Type 0
Holds s w None = (n : ℕ) → phase s w ≡ Held n → ⊥
Holds s w (Some n) = phase s w ≡ Held n

-- the worker looked for an entry that is there
abbrev pub LooksAt : State → ℕ → Option LookedAt → Type 0
LooksAt s w None = (n : ℕ) (reads : List Read) (e : Queued) → phase s w ≡ Looked n reads → entry s n ≡ Some e → ⊥
LooksAt s w (Some x) = (e : Queued) × (phase s w ≡ Looked x.number x.reads) × (entry s x.number ≡ Some e) × (e.envelope ≡ x.envelope)

-- the commit was made, or its number is spent
abbrev pub CommitsBy : Constants → State → ℕ → ℕ → Message → Plan → State → Bool → Type 0
CommitsBy c s w n m plan t true = (s.tables.commits < limit) × (t ≡ committed c s w n m plan)
CommitsBy c s w n m plan t false = limit ≤ s.tables.commits

-- the outcome is that of a worker's entry with this message, which isn't recorded
pub record IsNewOutcome (c : Constants) (s : State) (w n : ℕ) (m : Message) (o : Outcome) : Type 0 where
  pub it : Queued
  pub looked : phase s w ≡ Looked n o.reads
  pub there : entry s n ≡ Some it
  pub message_is : it.envelope ≡ m
  pub new : recorded s (id_of m) ≡ None
  pub verdict_is : o.verdict ≡ c.meaning.on_reads o.reads m s.moment

-- what a settlement rests on: few failures, reads that some tables showed, and plans that can be sent
pub record CanSettle (c : Constants) (s : State) : Type 0 where
  pub few : (n : ℕ) → fails s n ≤ 1001
  pub shown : (w n : ℕ) (reads : List Read) (e : Queued) → phase s w ≡ Looked n reads → entry s n ≡ Some e → IsShown c.meaning e.envelope reads
  pub can : (w n : ℕ) (reads : List Read) (e : Queued) (plan : Plan) → phase s w ≡ Looked n reads → entry s n ≡ Some e
      → c.meaning.on_reads reads e.envelope s.moment ≡ verdict.Done plan → AllByRecursion (CanDispatch c.settings) plan.intents
