-- The step relation: an old state, an event, a new state. There is one constructor for each way that an event can go: the
-- lines before the last one say where it is possible, and the last one says the new state. What isn't named stays.
use Rattle.std.specs.Prelude.{◌≡◌, ◌≢◌, ℕ, ◌+◌, ◌≤◌, ◌<◌, List, [], length, true, Option, Some, None, slice_get}
use Rattle.std.specs.FinMap as map
use Rattle.nb_base.specs.Messages.{Message, IsMessage}
use Rattle.nb_base.specs.Shown.{seen, AreFresh}
use Rattle.nb_base.specs.Sound.{limit}
use Rattle.nb_base.specs.declared.entry.Op.{Op}
use Rattle.nb_base.specs.declared.entry.OutboxRow.{OutboxRow}
use Rattle.nb_base.specs.declared.entry.Which.{Which}
use Rattle.nb_base.specs.declared.plan.Fault.{Fault}
use Rattle.nb_base.specs.declared.plan.Plan.{Plan}
use Rattle.nb_base.specs.declared.plan.Verdict.TheVariants as verdict
use Rattle.nb_base.specs.declared.saga_row.Read.{Read}
use Rattle.nb_base.specs.declared.tables.Queued.{Queued}
use Rattle.nb_headers.specs.Faults.{stripped}
use Rattle.nb_headers.specs.Reads.{id_of, failed_queue}
use Rattle.nb_recover.specs.declared.fail.Fail.TheVariants as fail
use Rattle.nb_core.specs.Stale.{IsLeastStale, conflict_on}
use Rattle.nb_core.specs.State.{State, Constants, Idle, Held, Looked, Sending, Leaving, Done, phase, entry, recorded, base, AllIdle, HasRoom, IsLeastFree, at_phase, put, removed, recording, phase_by, failed, committed}
pub use Rattle.nb_core.specs.declared.event.Event.{Event}
pub use Rattle.nb_core.specs.declared.event.Event.TheVariants.{Load, Take, Look, Settle, Send, Mark, Aside, Remove, Tick, Release, Purge, PutBack, DropBack, Stop, Halt}

pub data Step (c : Constants) : State → Event → State → Type 0 where
  load : {s : State} {m : Message}
      → IsMessage m → HasRoom s
      → Step c s (Load m) (put s c.settings.endpoint None m)
  take : {s : State} {w n : ℕ}
      → phase s w ≡ Idle → IsLeastFree c s n
      → Step c s (Take w) (at_phase s w (Held n))
  -- the id is recorded
  look_known : {s : State} {w n : ℕ} {e : Queued} {r : OutboxRow}
      → phase s w ≡ Held n → entry s n ≡ Some e → recorded s (id_of e.envelope) ≡ Some r
      → Step c s (Look w) (at_phase s w (phase_by r.sent n (id_of e.envelope) r.ops))
  look_new : {s : State} {w n : ℕ} {e : Queued}
      → phase s w ≡ Held n → entry s n ≡ Some e → recorded s (id_of e.envelope) ≡ None
      → Step c s (Look w) (at_phase s w (Looked n (seen (base s) (c.meaning.keys e.envelope))))
  -- the id was recorded meanwhile
  settle_twin : {s : State} {w n : ℕ} {reads : List Read} {e : Queued} {r : OutboxRow}
      → phase s w ≡ Looked n reads → entry s n ≡ Some e → recorded s (id_of e.envelope) ≡ Some r
      → Step c s (Settle w) (at_phase s w (phase_by r.sent n (id_of e.envelope) r.ops))
  -- the verdict over what was read is a fault
  settle_fault : {s : State} {w n : ℕ} {reads : List Read} {e : Queued} {f : Fault}
      → phase s w ≡ Looked n reads → entry s n ≡ Some e → recorded s (id_of e.envelope) ≡ None
      → c.meaning.on_reads reads e.envelope s.moment ≡ verdict.Fault f
      → Step c s (Settle w) (failed c s w n e.envelope (fail.Fault f))
  -- it is a plan, and what was read has changed
  settle_conflict : {s : State} {w n : ℕ} {reads : List Read} {e : Queued} {plan : Plan} {r : Read}
      → phase s w ≡ Looked n reads → entry s n ≡ Some e → recorded s (id_of e.envelope) ≡ None
      → c.meaning.on_reads reads e.envelope s.moment ≡ verdict.Done plan
      → IsLeastStale (base s) reads r
      → Step c s (Settle w) (failed c s w n e.envelope (conflict_on (base s) r))
  -- it is a plan, and what was read still stands
  settle_commit : {s : State} {w n : ℕ} {reads : List Read} {e : Queued} {plan : Plan}
      → phase s w ≡ Looked n reads → entry s n ≡ Some e → recorded s (id_of e.envelope) ≡ None
      → c.meaning.on_reads reads e.envelope s.moment ≡ verdict.Done plan
      → AreFresh (base s) reads → s.tables.commits < limit
      → Step c s (Settle w) (committed c s w n e.envelope plan)
  send : {s : State} {w n k : ℕ} {id : List ℕ} {ops : List Op} {op : Op}
      → phase s w ≡ Sending n id ops k → slice_get ops k ≡ Some op → HasRoom s
      → Step c s (Send w) (at_phase (put s op.queue op.due op.envelope) w (Sending n id ops (k + 1)))
  mark : {s : State} {w n k : ℕ} {id : List ℕ} {ops : List Op} {r : OutboxRow}
      → phase s w ≡ Sending n id ops k → k ≡ length ops → recorded s id ≡ Some r
      → Step c s (Mark w) (at_phase (recording s id (record r { sent = true; ops = [] })) w (Done n))
  aside : {s : State} {w n : ℕ} {queue : List ℕ} {due : Option ℕ} {copy : Message}
      → phase s w ≡ Leaving n queue due copy → HasRoom s
      → Step c s (Aside w) (at_phase (put s queue due copy) w (Done n))
  remove : {s : State} {w n : ℕ}
      → phase s w ≡ Done n
      → Step c s (Remove w) (at_phase (removed s n) w Idle)
  tick : {s : State} {to : ℕ}
      → AllIdle s → s.moment ≤ to
      → Step c s (Tick to) (record s { moment = to })
  release : {s : State} {n due : ℕ} {e : Queued}
      → AllIdle s → entry s n ≡ Some e → e.due ≡ Some due → due ≤ s.moment
      → Step c s (Release n) (record s { post = record s.post { entries = map.insert s.post.entries n (record e { due = None }) } })
  purge : {s : State} {id : List ℕ} {r : OutboxRow}
      → AllIdle s → recorded s id ≡ Some r → r.sent ≡ true → r.at + c.settings.retention ≤ s.moment
      → Step c s (Purge id) (record s { tables = record s.tables { outbox = map.remove s.tables.outbox id } })
  put_back : {s : State} {n : ℕ} {e : Queued}
      → AllIdle s → entry s n ≡ Some e → e.queue ≡ c.settings.error → e.due ≡ None → failed_queue e.envelope ≢ [] → HasRoom s
      → Step c s (PutBack n) (record (put s (failed_queue e.envelope) None (stripped e.envelope)) { back = map.insert s.back n tt })
  drop_back : {s : State} {n : ℕ}
      → AllIdle s → map.get s.back n ≡ Some tt
      → Step c s (DropBack n) (record (removed s n) { back = map.remove s.back n })
  stop : {s : State} {moment : ℕ}
      → Step c s (Stop moment) (record s { phases = map.empty; fails = map.empty; back = map.empty; discarded = []; moment = moment })
  halt : {s : State} {store : Which}
      → Step c s (Halt store) s
