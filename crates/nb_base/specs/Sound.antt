-- What tables and posts keep: their grammar and their bounds.
use Rattle.std.specs.Prelude.{◌≡◌, ◌≢◌, ℕ, ◌≤◌, ◌<◌, ◌^◌, List, [], ◌∷◌, ◌++◌, map as map_list, length, Bool, true, false, ◌&&◌, bytes_eq, Some, nat_lt}
use Rattle.std.specs.Fmt.{decimal}
use Rattle.std.specs.Char.{is_ascii_digit}
use Rattle.std.specs.List.{AllByRecursion, IsDistinct, list_all}
use Rattle.std.specs.FinMap as map
use Rattle.nb_base.specs.Messages.{has_id}
use Rattle.nb_base.specs.Shown.{Stored, stored}
use Rattle.nb_base.specs.declared.entry.Op.{Op}
use Rattle.nb_base.specs.declared.entry.OutboxRow.{OutboxRow}
use Rattle.nb_base.specs.declared.saga_key.SagaKey.{SagaKey}
use Rattle.nb_base.specs.declared.saga_row.SagaRow.{SagaRow}
use Rattle.nb_base.specs.declared.tables.PostState.{PostState}
use Rattle.nb_base.specs.declared.tables.Queued.{Queued}
use Rattle.nb_base.specs.declared.tables.Row.{Row}
use Rattle.nb_base.specs.declared.tables.Tables.{Tables}
use Rattle.nb_base.specs.declared.value.Field.{Field}
use Rattle.nb_base.specs.declared.value.Value.{Value}
use Rattle.nb_base.specs.declared.value.Value.TheVariants as value

-- commits and entries are numbered up to this one
abbrev pub limit : ℕ
limit = 2 ^ 62

-- from 1 to the number of commits
abbrev pub IsVersion : ℕ → ℕ → Type 0
IsVersion commits n = (1 ≤ n) × (n ≤ commits)

-- a number or a text
abbrev pub CanCorrelate : Value → Type 0
CanCorrelate (value.Int n) = Unit {0}
CanCorrelate (value.Text t) = Unit {0}
CanCorrelate (value.Bool b) = ⊥

-- a number from 1 in decimal digits, without leading zeros
abbrev pub is_index : List ℕ → Bool
is_index [] = false
is_index (d ∷ ds) = nat_lt 48 d && list_all is_ascii_digit (d ∷ ds)

-- any text, the number of the commit that gave the id, and an index, parted by slashes
abbrev pub IsSagaId : ℕ → List ℕ → Type 0
IsSagaId commits id =
    (text : List ℕ) × (n : ℕ) × (index : List ℕ) × (id ≡ text ++ 47 ∷ decimal n ++ 47 ∷ index) × IsVersion commits n × (is_index index ≡ true)

abbrev pub HaveDistinctNames : List Field → Type 0
HaveDistinctNames fields = IsDistinct bytes_eq (map_list (λ (f : Field). f.name) fields)

pub record IsSoundSaga (commits : ℕ) (place : SagaKey) (row : SagaRow) : Type 0 where
  pub corr : row.corr ≡ place.corr
  pub kind : CanCorrelate row.corr
  pub id : IsSagaId commits row.id
  pub version : IsVersion commits row.version
  pub revision : 1 ≤ row.revision
  pub fields : HaveDistinctNames row.fields

-- sagas and rows are in order, and no two sagas have one id
pub record IsSoundStored (t : Stored) : Type 0 where
  pub commits : t.commits ≤ limit
  pub sagas : (place : SagaKey) (row : SagaRow) → map.get t.sagas place ≡ Some row → IsSoundSaga t.commits place row
  pub ids : (p q : SagaKey) (a b : SagaRow) → map.get t.sagas p ≡ Some a → map.get t.sagas q ≡ Some b → a.id ≡ b.id → p ≡ q
  pub rows : (name : List ℕ) (row : Row) → map.get t.rows name ≡ Some row → IsVersion t.commits row.version

-- the most messages that one batch has
abbrev pub most_ops : ℕ
most_ops = 4096

-- the record of the message with this id; a sent one has no ops
pub record IsSoundRecord (commits : ℕ) (id : List ℕ) (r : OutboxRow) : Type 0 where
  pub named : id ≢ []
  pub number : IsVersion commits r.n
  pub few : length r.ops ≤ most_ops
  pub queues : AllByRecursion (λ (op : Op). op.queue ≢ []) r.ops
  pub ids : AllByRecursion (λ (op : Op). has_id op.envelope.headers ≡ true) r.ops
  pub sent : r.sent ≡ true → r.ops ≡ []

pub record IsSoundTables (t : Tables) : Type 0 where
  pub base : IsSoundStored (stored t)
  pub records : (id : List ℕ) (r : OutboxRow) → map.get t.outbox id ≡ Some r → IsSoundRecord t.commits id r
  pub numbers : (i j : List ℕ) (a b : OutboxRow) → map.get t.outbox i ≡ Some a → map.get t.outbox j ≡ Some b → a.n ≡ b.n → i ≡ j

-- an entry under its number
pub record IsSoundEntry (next number : ℕ) (e : Queued) : Type 0 where
  pub from : 1 ≤ number
  pub below : number < next
  pub queue : e.queue ≢ []
  pub id : has_id e.envelope.headers ≡ true

pub record IsSoundPost (p : PostState) : Type 0 where
  pub from : 1 ≤ p.next
  pub to : p.next ≤ limit
  pub entries : (number : ℕ) (e : Queued) → map.get p.entries number ≡ Some e → IsSoundEntry p.next number e
