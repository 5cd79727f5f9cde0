-- What tables show at the keys of a message, and whether that is still so.
use Rattle.std.specs.Prelude.{◌≡◌, ℕ, List, [], ◌∷◌, ◌&&◌, bytes_eq, if◌then◌else◌, Option, Some, None}
use Rattle.std.specs.List.{AllByRecursion}
use Rattle.std.specs.FinMap as map
use Rattle.nb_base.specs.Orders.{ByName, BySaga}
use Rattle.nb_base.specs.declared.value.Key.{Key}
use Rattle.nb_base.specs.declared.value.Key.TheVariants as key
use Rattle.nb_base.specs.declared.saga_key.SagaKey.{SagaKey}
use Rattle.nb_base.specs.declared.saga_row.SagaRow.{SagaRow}
use Rattle.nb_base.specs.declared.saga_row.Seen.{Seen}
use Rattle.nb_base.specs.declared.saga_row.Seen.TheVariants.{Absent, Saga, Row as RowSeen}
use Rattle.nb_base.specs.declared.saga_row.Read.{Read}
use Rattle.nb_base.specs.declared.tables.Row.{Row}
use Rattle.nb_base.specs.declared.tables.Tables.{Tables}

-- the part of the tables that messages read and write: the sagas, the rows and the number of commits
pub record Stored : Type 0 where
  pub sagas : BySaga SagaRow
  pub rows : ByName Row
  pub commits : ℕ

abbrev pub stored : Tables → Stored
stored t = record { sagas = t.sagas; rows = t.rows; commits = t.commits }

abbrev pub saga_seen : Option SagaRow → Seen
saga_seen None = Absent
saga_seen (Some row) = Saga row

abbrev pub row_seen : Option Row → Seen
row_seen None = Absent
row_seen (Some row) = RowSeen row.version row.value

-- the saga of this type that has this id
abbrev pub with_id : List ℕ → List ℕ → List (SagaKey × SagaRow) → Option SagaRow
with_id saga id [] = None
with_id saga id (e ∷ es) = if bytes_eq e.0.saga saga && bytes_eq e.1.id id then Some e.1 else with_id saga id es

-- what stands at a key
abbrev pub shown : Stored → Key → Seen
shown t (key.ByCorr saga corr) = saga_seen (map.get t.sagas (record { saga = saga; corr = corr }))
shown t (key.ById saga id) = saga_seen (with_id saga id (map.entries t.sagas))
shown t (key.Row name) = row_seen (map.get t.rows name)

-- each key with what stands there
abbrev pub seen : Stored → List Key → List Read
seen t [] = []
seen t (k ∷ ks) = record { key = k; seen = shown t k } ∷ seen t ks

-- the version of what was seen, 0 where nothing stood there
abbrev pub version_of : Seen → ℕ
version_of Absent = 0
version_of (Saga row) = row.version
version_of (RowSeen version value) = version

-- the version found now is the version read
abbrev pub IsFresh : Stored → Read → Type 0
IsFresh t r = version_of r.seen ≡ version_of (shown t r.key)

abbrev pub AreFresh : Stored → List Read → Type 0
AreFresh t reads = AllByRecursion (IsFresh t) reads
