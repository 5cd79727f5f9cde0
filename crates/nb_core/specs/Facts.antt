-- What holds in every state of a legal history.
use Rattle.std.specs.Prelude.{◌≡◌, ◌≢◌, ◌⊎◌, ℕ, ◌+◌, ◌≤◌, List, [], map, length, true, Option, Some}
use Rattle.std.specs.FinMap as maps
use Rattle.std.specs.List.{AllByRecursion}
use Rattle.nb_base.specs.Meanings.{AllFit}
use Rattle.nb_base.specs.Messages.{has_id}
use Rattle.nb_base.specs.Orders.{ByNumber}
use Rattle.nb_base.specs.Shown.{Stored, shown, version_of}
use Rattle.nb_base.specs.Sound.{IsSoundTables, IsSoundPost}
use Rattle.nb_base.specs.declared.entry.Op.{Op}
use Rattle.nb_base.specs.declared.entry.OutboxRow.{OutboxRow}
use Rattle.nb_base.specs.declared.saga_row.Read.{Read}
use Rattle.nb_base.specs.declared.saga_row.Seen.TheVariants.{Absent}
use Rattle.nb_base.specs.declared.settings.Settings.{Settings}
use Rattle.nb_base.specs.declared.tables.Queued.{Queued}
use Rattle.nb_headers.specs.Reads.{id_of}
use Rattle.nb_core.specs.State.{State, Constants, Phase, Idle, Held, Looked, Sending, Leaving, Done, phase, phase_in, number_of, entry, recorded, base, fails, IsReady, IsFree}

-- an entry that stands in the own queue
pub record Stands (settings : Settings) (es : ByNumber Queued) (n : ℕ) : Type 0 where
  pub it : Queued
  pub there : maps.get es n ≡ Some it
  pub ready : IsReady settings it

-- a held entry stands in the own queue without a due, and two workers hold different entries
pub record Holding (settings : Settings) (ps : ByNumber Phase) (es : ByNumber Queued) : Type 0 where
  pub stands : (w n : ℕ) → number_of (phase_in ps w) ≡ Some n → Stands settings es n
  pub apart : (v w n : ℕ) → number_of (phase_in ps v) ≡ Some n → number_of (phase_in ps w) ≡ Some n → v ≡ w

-- a read is of a commit so far, and it is what is shown now where the versions agree
pub record Fits (t : Stored) (r : Read) : Type 0 where
  pub past : version_of r.seen ≤ t.commits
  pub absent : version_of r.seen ≡ 0 → r.seen ≡ Absent
  pub same : version_of r.seen ≡ version_of (shown t r.key) → r.seen ≡ shown t r.key

-- the reads of a `Looked` phase are at the keys of its entry's message, and each fits
abbrev pub ReadWell : Constants → Stored → ByNumber Queued → Phase → Type 0
ReadWell c t es Idle = Unit {0}
ReadWell c t es (Held n) = Unit {0}
ReadWell c t es (Looked n reads) =
    (e : Queued) × (maps.get es n ≡ Some e) × (map (λ (r : Read). r.key) reads ≡ c.meaning.keys e.envelope) × AllByRecursion (Fits t) reads
ReadWell c t es (Sending n id ops k) = Unit {0}
ReadWell c t es (Leaving n queue due copy) = Unit {0}
ReadWell c t es (Done n) = Unit {0}

-- an op can be put: its queue isn't empty, and its message is named
pub record CanPut (op : Op) : Type 0 where
  pub queue : op.queue ≢ []
  pub named : has_id op.envelope.headers ≡ true

-- The id of a `Sending` phase is that of its entry and is recorded, and the record is sent or has the phase's ops.
pub record SendsRight (s : State) (n : ℕ) (id : List ℕ) (ops : List Op) (k : ℕ) : Type 0 where
  pub it : Queued
  pub there : entry s n ≡ Some it
  pub id_is : id_of it.envelope ≡ id
  pub row : OutboxRow
  pub known : recorded s id ≡ Some row
  pub batch : (row.sent ≡ true) ⊎ (row.ops ≡ ops)
  pub ops_can : AllByRecursion CanPut ops
  pub so_far : k ≤ length ops

pub record StateFacts (c : Constants) (s : State) : Type 0 where
  pub tables : IsSoundTables s.tables
  pub post : IsSoundPost s.post
  pub fit : AllFit c.meaning (base s)
  pub holding : Holding c.settings s.phases s.post.entries
  pub looked : (w : ℕ) → ReadWell c (base s) s.post.entries (phase s w)
  pub sending : (w n : ℕ) (id : List ℕ) (ops : List Op) (k : ℕ) → phase s w ≡ Sending n id ops k → SendsRight s n id ops k
  pub leaving : (w n : ℕ) (queue : List ℕ) (due : Option ℕ) (copy : Rattle.nb_base.specs.Messages.Message) → phase s w ≡ Leaving n queue due copy → (queue ≢ []) × (has_id copy.headers ≡ true)
  -- a free entry, or one that its worker looked at, failed at most as often as there are immediate retries
  pub free : (n : ℕ) → IsFree c s n → fails s n ≤ c.settings.immediate
  pub tried : (w n : ℕ) (reads : List Read) → phase s w ≡ Looked n reads → fails s n ≤ c.settings.immediate
  pub counts : (n : ℕ) → fails s n ≤ c.settings.immediate + 1
  pub back : (n : ℕ) → maps.get s.back n ≡ Some tt → (e : Queued) × (entry s n ≡ Some e) × (e.queue ≡ c.settings.error)
