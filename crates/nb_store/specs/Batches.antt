-- A commit in memory: room for what is new before the one change of the cells, and the writes after it.
use Rattle.std.specs.Prelude.{◌≡◌, ◌≢◌, ◌⊎◌, ℕ, ◌+◌, List, [], ◌∷◌, ◌++◌, fold, Option, Some, None, option_to_list}
use Rattle.std.specs.FinMap as map
use Rattle.std.specs.List.{AllByRecursion}
use Rattle.std.proofs.Common.{Ordering}
use Rattle.nb_base.specs.Meanings.{Place, saga_at, row_at}
use Rattle.nb_base.specs.Orders.{ByName, BySaga}
use Rattle.nb_base.specs.Shown.{Stored, stored}
use Rattle.nb_base.specs.Sound.{IsSoundTables}
use Rattle.nb_base.specs.declared.entry.OutboxRow.{OutboxRow}
use Rattle.nb_base.specs.declared.saga_key.SagaKey.{SagaKey}
use Rattle.nb_base.specs.declared.saga_row.SagaRow.{SagaRow}
use Rattle.nb_base.specs.declared.tables.Row.{Row as StoredRow}
use Rattle.nb_base.specs.declared.tables.Tables.{Tables}
use Rattle.nb_cells.specs.Cells.{AreInSpaces, AreDistinct}
use Rattle.nb_outbox.specs.Spelled.{IsId, IsRecord}
use Rattle.nb_saga_store.specs.Maps.{AreSpelled}
use Rattle.nb_saga_store.specs.Writes.{with_written}
use Rattle.nb_saga_store.specs.declared.written.Written.{Written}
use Rattle.nb_saga_store.specs.declared.written.Written.TheVariants.{Saga, SagaGone, Row, RowGone}
use Rattle.nb_store.specs.Applied.{Leads}
use Rattle.nb_store.specs.declared.batch.Batch.{Batch}
use Rattle.nb_store.specs.declared.batch.Link.{Link}

-- the item stands in the list
abbrev pub Among : {A : Type 0} → A → List A → Type 0
Among x [] = ⊥
Among x (y ∷ ys) = (x ≡ y) ⊎ Among x ys

-- ---- what stands at a place

pub data Content : Type 0 where
  saga_there : SagaRow → Content
  row_there : StoredRow → Content

abbrev pub version_of : Content → ℕ
version_of (saga_there row) = row.version
version_of (row_there row) = row.version

abbrev pub saga_found : Option SagaRow → Option Content
saga_found None = None
saga_found (Some row) = Some (saga_there row)

abbrev pub row_found : Option StoredRow → Option Content
row_found None = None
row_found (Some row) = Some (row_there row)

abbrev pub found_at : Stored → Place → Option Content
found_at t (saga_at place) = saga_found (map.get t.sagas place)
found_at t (row_at name) = row_found (map.get t.rows name)

-- ---- what a write leaves, and where

abbrev pub place_of : Written → Place
place_of (Saga place row) = saga_at place
place_of (SagaGone place) = saga_at place
place_of (Row name row) = row_at name
place_of (RowGone name) = row_at name

abbrev pub content_of : Written → Option Content
content_of (Saga place row) = Some (saga_there row)
content_of (SagaGone place) = None
content_of (Row name row) = Some (row_there row)
content_of (RowGone name) = None

-- what is put is of this version
abbrev pub IsOf : ℕ → Option Content → Type 0
IsOf n None = Unit {0}
IsOf n (Some content) = version_of content ≡ n

abbrev pub AreOf : ℕ → List Written → Type 0
AreOf n ws = AllByRecursion (λ w. IsOf n (content_of w)) ws

abbrev pub AreApart : List Written → Type 0
AreApart [] = Unit {0}
AreApart (w ∷ ws) = AllByRecursion (λ v. place_of w ≢ place_of v) ws × AreApart ws

-- ---- room

-- a new key with this value, or nothing new
abbrev pub MakesRoom : {K V : Type 0} {R : K → K → Ordering} → map.FinMap R V → K → V → map.FinMap R V → Type 0
MakesRoom m k v n = (n ≡ m) ⊎ ((map.get m k ≡ None) × (n ≡ map.insert m k v))

-- what the write leaves stands where nothing stood, or nothing is new
abbrev pub Widens : Written → Stored → Stored → Type 0
Widens w t u = (u ≡ t) ⊎ ((found_at t (place_of w) ≡ None) × (u ≡ with_written t w))

-- where something is put there is room
abbrev pub HasRoomFor : Stored → Place → Option Content → Type 0
HasRoomFor t p None = Unit {0}
HasRoomFor t p (Some content) = found_at t p ≢ None

abbrev pub HasRoom : Stored → Written → Type 0
HasRoom t w = HasRoomFor t (place_of w) (content_of w)

abbrev pub HaveRoom : Stored → List Written → Type 0
HaveRoom t ws = AllByRecursion (HasRoom t) ws

-- what is new at a place where nothing stood was left by one of the writes
pub record IsNewAt (ws : List Written) (t u : Stored) (p : Place) : Type 0 where
  pub write : Written
  pub among : Among write ws
  pub place : place_of write ≡ p
  pub before : found_at t p ≡ None
  pub now : found_at u p ≡ content_of write

-- nothing that stood there has changed
pub record IsWider (ws : List Written) (t u : Stored) : Type 0 where
  pub places : (p : Place) → (found_at u p ≡ found_at t p) ⊎ IsNewAt ws t u p
  pub commits : u.commits ≡ t.commits

-- nothing stands there that is of this version
abbrev pub IsOlder : ℕ → Stored → Type 0
IsOlder n t = (p : Place) (content : Content) → found_at t p ≡ Some content → version_of content ≢ n

-- what stood under the key is gone, where the test holds of it
abbrev pub ClearsAt : {K V : Type 0} {R : K → K → Ordering} → (V → Type 0) → map.FinMap R V → K → map.FinMap R V → Type 0
ClearsAt {V = V} Is m k n =
    ((v : V) × (map.get m k ≡ Some v) × Is v × (n ≡ map.remove m k))
    ⊎ (((v : V) → map.get m k ≡ Some v → Is v → ⊥) × (n ≡ m))

-- what stood at the place is gone, where it was of this version
pub record Clears (n : ℕ) (p : Place) (t u : Stored) : Type 0 where
  pub here : ((content : Content) × (found_at t p ≡ Some content) × (version_of content ≡ n) × (found_at u p ≡ None))
      ⊎ (((content : Content) → found_at t p ≡ Some content → version_of content ≢ n) × (found_at u p ≡ found_at t p))
  pub others : (q : Place) → q ≢ p → found_at u q ≡ found_at t q
  pub commits : u.commits ≡ t.commits

-- ---- the places of sagas under their ids

abbrev pub link_of : Written → Option Link
link_of (Saga place row) = Some (record { id = row.id; place = place })
link_of (SagaGone place) = None
link_of (Row name row) = None
link_of (RowGone name) = None

-- the place of each saga that is put, under its id
abbrev pub links_of : List Written → List Link
links_of [] = []
links_of (w ∷ ws) = option_to_list (link_of w) ++ links_of ws

abbrev pub id_in : Option SagaRow → List (List ℕ)
id_in None = []
id_in (Some row) = row.id ∷ []

-- the id of the saga that stands at the place, and of the one that is put there
abbrev pub ids_at : BySaga SagaRow → Written → List (List ℕ)
ids_at sagas (Saga place row) = id_in (map.get sagas place) ++ row.id ∷ []
ids_at sagas (SagaGone place) = id_in (map.get sagas place)
ids_at sagas (Row name row) = []
ids_at sagas (RowGone name) = []

-- the ids under which something may change
abbrev pub touched_ids : BySaga SagaRow → List Written → List (List ℕ)
touched_ids sagas [] = []
touched_ids sagas (w ∷ ws) = ids_at sagas w ++ touched_ids sagas ws

abbrev pub linked : ByName SagaKey → Link → ByName SagaKey
linked ids link = map.insert ids link.id link.place

abbrev pub HasLink : ByName SagaKey → Link → Type 0
HasLink ids link = map.get ids link.id ≢ None

abbrev pub HaveLinks : ByName SagaKey → List Link → Type 0
HaveLinks ids links = AllByRecursion (HasLink ids) links

-- what is new under an id that had nothing is one of the links
pub record IsNewLink (links : List Link) (ids now : ByName SagaKey) (id : List ℕ) : Type 0 where
  pub link : Link
  pub among : Among link links
  pub id_is : link.id ≡ id
  pub before : map.get ids id ≡ None

-- nothing that stood under an id has changed
abbrev pub AreWiderIds : List Link → ByName SagaKey → ByName SagaKey → Type 0
AreWiderIds links ids now = (id : List ℕ) → (map.get now id ≡ map.get ids id) ⊎ IsNewLink links ids now id

-- the saga at the place has this id
abbrev pub HasId : BySaga SagaRow → SagaKey → List ℕ → Type 0
HasId sagas place id = (row : SagaRow) × (map.get sagas place ≡ Some row) × (row.id ≡ id)

-- under these ids only places of sagas with them are left
pub record AreSwept (sagas : BySaga SagaRow) (names : List (List ℕ)) (ids now : ByName SagaKey) : Type 0 where
  pub less : (id : List ℕ) (place : SagaKey) → map.get now id ≡ Some place → map.get ids id ≡ Some place
  pub kept : (id : List ℕ) (place : SagaKey) → map.get ids id ≡ Some place → HasId sagas place id → map.get now id ≡ Some place
  pub clean : (id : List ℕ) (place : SagaKey) → Among id names → map.get now id ≡ Some place → HasId sagas place id

-- ---- a batch

-- the tables after a batch and the record of its message
abbrev pub after_batch : Tables → Batch → OutboxRow → Tables
after_batch t b r =
    let written = fold with_written (stored t) b.writes in
    record { sagas = written.sagas; rows = written.rows; outbox = map.insert t.outbox b.id r; commits = t.commits + 1 }

-- the batch is a commit on these tables
pub record IsBatch (t : Tables) (b : Batch) (r : OutboxRow) : Type 0 where
  pub sound : IsSoundTables (after_batch t b r)
  pub apart : AreApart b.writes
  pub versions : AreOf (t.commits + 1) b.writes
  pub spelled : AreSpelled (stored (after_batch t b r))
  pub unrecorded : map.get t.outbox b.id ≡ None
  pub named : IsId b.id
  pub handled : IsRecord r
  pub links : b.links ≡ links_of b.writes
  pub names : b.names ≡ touched_ids t.sagas b.writes
  pub spaces : AreInSpaces b.changes
  pub distinct : AreDistinct b.changes
  pub leads : Leads b.changes t (after_batch t b r)
