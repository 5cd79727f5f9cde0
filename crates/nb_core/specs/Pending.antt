-- While a record is not sent, the entries that lead to its sending stay.
use Rattle.std.specs.Prelude.{◌≡◌, ◌⊎◌, ℕ, List, false, Option, Some, None}
use Rattle.nb_base.specs.Orders.{ByNumber, ByName}
use Rattle.nb_base.specs.declared.entry.OutboxRow.{OutboxRow}
use Rattle.nb_base.specs.declared.settings.Settings.{Settings}
use Rattle.nb_base.specs.declared.tables.Queued.{Queued}
use Rattle.nb_core.specs.History.{Run, ends, goes}
use Rattle.nb_core.specs.Sent.{changed}
use Rattle.nb_core.specs.State.{State, Constants, Phase, Idle, Held, Looked, Sending, Leaving, Done, IsReady}
use Rattle.nb_core.specs.Step.{Event, Step, settle_commit, stop}
use Rattle.nb_headers.specs.Reads.{id_of}
use Rattle.std.specs.FinMap as map

-- since the last Stop, or since the opening
pub record Since : Type 0 where
  pub committed_by : List ℕ → Option ℕ  -- for each id, the entry whose Settle committed it
  pub entries : ByNumber Queued  -- those that stood there then

abbrev pub since_first : State → Since
since_first s = record { committed_by = λ id. None; entries = s.post.entries }

abbrev pub since_after : {c : Constants} {s s' : State} {e : Event} → Since → Step c s e s' → Since
since_after t (settle_commit {n = n} {e = e} looked there new verdict fresh room) = record t { committed_by = changed t.committed_by (id_of e.envelope) (Some n) }
since_after {s = s} t stop = since_first s
since_after t _ = t

-- the entry, as it is now, of an entry that stood there: without a due, or with the due that it had
pub record StillThere (es : ByNumber Queued) (n : ℕ) (e : Queued) : Type 0 where
  pub it : Queued
  pub there : map.get es n ≡ Some it
  pub envelope : it.envelope ≡ e.envelope
  pub queue : it.queue ≡ e.queue
  pub due : (it.due ≡ e.due) ⊎ (it.due ≡ None)

pub record IsReadyFor (settings : Settings) (es : ByNumber Queued) (id : List ℕ) (n : ℕ) : Type 0 where
  pub it : Queued
  pub there : map.get es n ≡ Some it
  pub ready : IsReady settings it
  pub id_is : id_of it.envelope ≡ id

abbrev pub Leads : Settings → ByNumber Queued → ByNumber Queued → List ℕ → Option ℕ → Type 0
Leads settings was es id (Some n) = IsReadyFor settings es id n
Leads settings was es id None = (n : ℕ) (e : Queued) → map.get was n ≡ Some e → e.queue ≡ settings.endpoint → id_of e.envelope ≡ id → StillThere es n e

-- the entries that lead to the sending of each record that is not sent
abbrev pub PendingStay : Settings → Since → ByName OutboxRow → ByNumber Queued → Type 0
PendingStay settings t outbox es =
    (id : List ℕ) (r : OutboxRow) → map.get outbox id ≡ Some r → r.sent ≡ false → Leads settings t.entries es id (t.committed_by id)

abbrev pub PendingFrom : {c : Constants} {s s' : State} {es : List Event} → Since → Run c s es s' → Type 0
PendingFrom {c = c} {s = s} t ends = PendingStay c.settings t s.tables.outbox s.post.entries
PendingFrom {c = c} {s = s} t (goes first rest) = PendingStay c.settings t s.tables.outbox s.post.entries × PendingFrom (since_after t first) rest

-- at each position of the run
abbrev pub Pending : {c : Constants} {s s' : State} {es : List Event} → Run c s es s' → Type 0
Pending {s = s} run = PendingFrom (since_first s) run

-- ---- the entries that are named

-- the entry leads to the sending of the record of this id
abbrev pub NamesBy : Settings → ByNumber Queued → List ℕ → Option ℕ → ℕ → Type 0
NamesBy settings was id (Some k) n = k ≡ n
NamesBy settings was id None n = (e : Queued) × (map.get was n ≡ Some e) × (e.queue ≡ settings.endpoint) × (id_of e.envelope ≡ id)

-- the entry leads to the sending of a record that isn't sent
pub record IsNamed (settings : Settings) (t : Since) (outbox : ByName OutboxRow) (n : ℕ) : Type 0 where
  pub id : List ℕ
  pub it : OutboxRow
  pub there : map.get outbox id ≡ Some it
  pub unsent : it.sent ≡ false
  pub names : NamesBy settings t.entries id (t.committed_by id) n

-- a worker that has such an entry has it in `Held` or `Sending`
abbrev pub Calm : Settings → Since → ByName OutboxRow → Phase → Type 0
Calm settings t outbox Idle = Unit {0}
Calm settings t outbox (Held n) = Unit {0}
Calm settings t outbox (Looked n reads) = IsNamed settings t outbox n → ⊥
Calm settings t outbox (Sending n id ops k) = Unit {0}
Calm settings t outbox (Leaving n queue due copy) = IsNamed settings t outbox n → ⊥
Calm settings t outbox (Done n) = IsNamed settings t outbox n → ⊥
