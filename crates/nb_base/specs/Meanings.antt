-- What a script means, and what every such meaning keeps.
use Rattle.std.specs.Prelude.{◌≡◌, ◌≢◌, ℕ, ◌≤◌, ◌<◌, ◌^◌, List, [], ◌∷◌, length, Bool, true, is_some, slice_get, Option, Some, None}
use Rattle.std.specs.List.{AllByRecursion}
use Rattle.std.specs.FinMap as map
use Rattle.nb_base.specs.Messages.{Message}
use Rattle.nb_base.specs.Shown.{Stored, seen}
use Rattle.nb_base.specs.Sound.{IsSoundStored, CanCorrelate, HaveDistinctNames}
use Rattle.nb_base.specs.declared.plan.Intent.{Intent}
use Rattle.nb_base.specs.declared.plan.Plan.{Plan}
use Rattle.nb_base.specs.declared.plan.SagaRef.{SagaRef}
use Rattle.nb_base.specs.declared.plan.SagaRef.TheVariants as saga_ref
use Rattle.nb_base.specs.declared.plan.Target.{Target}
use Rattle.nb_base.specs.declared.plan.Target.TheVariants as target
use Rattle.nb_base.specs.declared.plan.Verdict.{Verdict}
use Rattle.nb_base.specs.declared.plan.Verdict.TheVariants as verdict
use Rattle.nb_base.specs.declared.plan.Write.{Write}
use Rattle.nb_base.specs.declared.plan.Write.TheVariants as write
use Rattle.nb_base.specs.declared.saga_key.SagaKey.{SagaKey}
use Rattle.nb_base.specs.declared.saga_row.Read.{Read}
use Rattle.nb_base.specs.declared.saga_row.SagaRow.{SagaRow}
use Rattle.nb_base.specs.declared.value.Key.{Key}

-- What a script means: what it reads for a message, its verdict at a moment on whole tables and on what was read, the
-- types of the messages that it sends, and whether it takes a stored saga of this type.
pub record Meaning : Type 0 where
  pub keys : Message → List Key
  pub verdict : Stored → Message → ℕ → Verdict
  pub on_reads : List Read → Message → ℕ → Verdict
  pub sends : List (List ℕ)
  pub fits : List ℕ → SagaRow → Bool

-- every stored saga fits the script
abbrev pub AllFit : Meaning → Stored → Type 0
AllFit meaning t = (place : SagaKey) (row : SagaRow) → map.get t.sagas place ≡ Some row → meaning.fits place.saga row ≡ true

-- the name stands in the list
abbrev pub IsAmong : List ℕ → List (List ℕ) → Type 0
IsAmong name names = (i : ℕ) × (slice_get names i ≡ Some name)

-- where a write goes
pub data Place : Type 0 where
  saga_at : SagaKey → Place
  row_at : List ℕ → Place

abbrev pub place_of : Write → Place
place_of (write.SagaPut saga corr revision which originator original fields) = saga_at (record { saga = saga; corr = corr })
place_of (write.SagaErase saga corr) = saga_at (record { saga = saga; corr = corr })
place_of (write.RowPut name value) = row_at name
place_of (write.RowErase name) = row_at name

-- the block that makes a new saga
abbrev pub block_of : Write → Option ℕ
block_of (write.SagaPut saga corr revision (saga_ref.New block) originator original fields) = Some block
block_of (write.SagaPut saga corr revision (saga_ref.Stored id) originator original fields) = None
block_of (write.SagaErase saga corr) = None
block_of (write.RowPut name value) = None
block_of (write.RowErase name) = None

-- no two writes go to one place or make a saga by one block
abbrev pub IsApart : Write → Write → Type 0
IsApart a b = (place_of a ≢ place_of b) × ((block : ℕ) → block_of a ≡ Some block → block_of b ≢ Some block)

abbrev pub AreApart : List Write → Type 0
AreApart [] = Unit {0}
AreApart (w ∷ ws) = AllByRecursion (IsApart w) ws × AreApart ws

-- a new saga goes where none is, and a stored one where it stands
abbrev pub IsPutRight : Stored → SagaKey → SagaRef → Type 0
IsPutRight t place (saga_ref.New block) = (1 ≤ block) × (block < 2 ^ 32) × (map.get t.sagas place ≡ None)
IsPutRight t place (saga_ref.Stored id) = (row : SagaRow) × (map.get t.sagas place ≡ Some row) × (row.id ≡ id)

abbrev pub IsRightWrite : Meaning → Stored → Write → Type 0
IsRightWrite meaning t (write.SagaPut saga corr revision which originator original fields) =
    CanCorrelate corr × (1 ≤ revision) × HaveDistinctNames fields × IsPutRight t (record { saga = saga; corr = corr }) which
    × ((id : List ℕ) (version : ℕ) → meaning.fits saga (record { corr = corr; id = id; version = version; revision = revision; originator = originator; original = original; fields = fields }) ≡ true)
IsRightWrite meaning t (write.SagaErase saga corr) = Unit {0}
IsRightWrite meaning t (write.RowPut name value) = Unit {0}
IsRightWrite meaning t (write.RowErase name) = Unit {0}

-- a message that is sent is of a type that the script sends, an address isn't empty, and a timeout comes from a saga
abbrev pub CanGo : Meaning → List ℕ → Bool → Target → Type 0
CanGo meaning name from_saga target.Send = IsAmong name meaning.sends
CanGo meaning name from_saga target.Local = Unit {0}
CanGo meaning name from_saga target.Publish = Unit {0}
CanGo meaning name from_saga (target.Reply to) = to ≢ []
CanGo meaning name from_saga (target.Originator to original) = to ≢ []
CanGo meaning name from_saga target.Timeout = from_saga ≡ true

-- the most messages that a handling sends
abbrev pub most_intents : ℕ
most_intents = 256

pub record IsRightPlan (meaning : Meaning) (t : Stored) (plan : Plan) : Type 0 where
  pub apart : AreApart plan.writes
  pub writes : AllByRecursion (IsRightWrite meaning t) plan.writes
  pub few : length plan.intents ≤ most_intents
  pub targets : AllByRecursion (λ (x : Intent). CanGo meaning x.name (is_some x.from) x.target) plan.intents

-- The verdict on whole tables is that on what they show at the keys, and its plans keep the tables sound.
pub record IsMeaning (meaning : Meaning) : Type 0 where
  pub local : (t : Stored) → IsSoundStored t → AllFit meaning t → (m : Message) (at : ℕ) → meaning.on_reads (seen t (meaning.keys m)) m at ≡ meaning.verdict t m at
  pub plans : (t : Stored) → IsSoundStored t → AllFit meaning t → (m : Message) (at : ℕ) (plan : Plan) → meaning.verdict t m at ≡ verdict.Done plan → IsRightPlan meaning t plan

-- the reads are what some sound tables, which the script takes, show at the message's keys
pub record IsShown (meaning : Meaning) (m : Message) (reads : List Read) : Type 0 where
  pub tables : Stored
  pub sound : IsSoundStored tables
  pub fit : AllFit meaning tables
  pub shown : reads ≡ seen tables (meaning.keys m)
