-- Where a call may be made.
use Rattle.std.specs.Prelude.{◌≡◌, ◌≢◌, ℕ, ◌+◌, ◌<◌, ◌≤◌, List, [], length, true, Option, Some, None}
use Rattle.std.specs.FinMap as map
use Rattle.nb_base.specs.Messages.{Message}
use Rattle.nb_base.specs.declared.entry.OutboxRow.{OutboxRow}
use Rattle.nb_base.specs.declared.plan.Outcome.{Outcome}
use Rattle.nb_base.specs.declared.tables.Queued.{Queued}
use Rattle.nb_headers.specs.Reads.{failed_queue}
use Rattle.nb_core.specs.Past.{constants}
use Rattle.nb_core.specs.declared.state.State.{State}
use Rattle.nb_core.specs.Standing.{Constants, phase, entry, recorded, AllIdle}
use Rattle.nb_core.specs.declared.phase.Phase.TheVariants.{Idle, Held, Looked, Sending, Leaving, Done}
use Rattle.nb_core.specs.declared.call.Call.{Call}
use Rattle.nb_core.specs.declared.call.Call.TheVariants as call
use Rattle.nb_core.specs.View.{View, state_of, Owns, OwnsAll}

-- the outcome is the verdict over what the worker read for its message
pub record IsOutcome (c : Constants) (s : State) (w : ℕ) (o : Outcome) : Type 0 where
  pub number : ℕ
  pub it : Queued
  pub looked : phase s w ≡ Looked number o.reads
  pub there : entry s number ≡ Some it
  pub verdict_is : o.verdict ≡ c.meaning.on_reads o.reads it.envelope s.moment

abbrev pub IsHeld : State → ℕ → Type 0
IsHeld s w = (n : ℕ) × (phase s w ≡ Held n)

-- so many ops are left to be sent
pub record IsSending (s : State) (w left : ℕ) : Type 0 where
  pub number : ℕ
  pub id : List ℕ
  pub ops : List Rattle.nb_base.specs.declared.entry.Op.Op
  pub k : ℕ
  pub sending : phase s w ≡ Sending number id ops k
  pub left_is : left + k ≡ length ops

abbrev pub IsLeaving : State → ℕ → Type 0
IsLeaving s w = (n : ℕ) × (queue : List ℕ) × (due : Option ℕ) × (copy : Message) × (phase s w ≡ Leaving n queue due copy)

abbrev pub IsDone : State → ℕ → Type 0
IsDone s w = (n : ℕ) × (phase s w ≡ Done n)

-- the entry is due now
abbrev pub CanRelease : State → ℕ → Type 0
CanRelease s n = (e : Queued) × (due : ℕ) × (entry s n ≡ Some e) × (e.due ≡ Some due) × (due ≤ s.moment)

-- the record is sent, and was kept long enough
abbrev pub CanPurge : Constants → State → List ℕ → Type 0
CanPurge c s id = (r : OutboxRow) × (recorded s id ≡ Some r) × (r.sent ≡ true) × (r.at + c.settings.retention ≤ s.moment)

-- the entry stands in the error queue, and says where it failed
abbrev pub CanReturn : Constants → State → ℕ → Type 0
CanReturn c s n = (e : Queued) × (entry s n ≡ Some e) × (e.queue ≡ c.settings.error) × (e.due ≡ None) × (failed_queue e.envelope ≢ [])

-- every worker is the caller's and is idle
abbrev pub AtRest : View → Type 0
AtRest v = OwnsAll v × AllIdle (state_of v)

abbrev pub Ready : Call → View → Type 0
Ready (call.Load m) v = Unit {0}
Ready (call.Take w) v = Owns v w × (phase (state_of v) w ≡ Idle)
Ready (call.Look w) v = Owns v w × IsHeld (state_of v) w
Ready (call.Settle w o) v = Owns v w × IsOutcome (constants v.fixed) (state_of v) w o
Ready (call.Send w) v = Owns v w × ((left : ℕ) × (0 < left) × IsSending (state_of v) w left)
Ready (call.Mark w) v = Owns v w × IsSending (state_of v) w 0
Ready (call.Aside w) v = Owns v w × IsLeaving (state_of v) w
Ready (call.Remove w) v = Owns v w × IsDone (state_of v) w
Ready (call.Tick to) v = AtRest v × ((state_of v).moment ≤ to)
Ready (call.Release n) v = AtRest v × CanRelease (state_of v) n
Ready (call.Purge id) v = AtRest v × CanPurge (constants v.fixed) (state_of v) id
Ready (call.PutBack n) v = AtRest v × CanReturn (constants v.fixed) (state_of v) n
Ready (call.DropBack n) v = AtRest v × (map.get (state_of v).back n ≡ Some tt)
Ready (call.Unsent w) v = Owns v w × ((left : ℕ) × IsSending (state_of v) w left)
Ready call.NextDue v = Unit {0}
Ready (call.IsDrained until) v = Unit {0}
