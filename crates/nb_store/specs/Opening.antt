-- The tables for which cells stand, read one after the other in the order of their places.
use Rattle.std.specs.Prelude.{◌≡◌, ◌≢◌, ◌≤◌, ℕ, List, [], ◌∷◌, ◌++◌, length, Some, None, Result, Ok, Err}
use Rattle.std.specs.FinMap as map
use Rattle.nb_base.specs.Orders.{ByName, ByNumber}
use Rattle.nb_base.specs.Sound.{IsSagaId, IsVersion, limit}
use Rattle.nb_base.specs.declared.entry.OutboxRow.{OutboxRow}
use Rattle.nb_base.specs.declared.saga_key.SagaKey.{SagaKey}
use Rattle.nb_base.specs.declared.saga_row.SagaRow.{SagaRow}
use Rattle.nb_base.specs.declared.tables.Tables.{Tables}
use Rattle.nb_cells.specs.declared.cell.Cell.{Cell}
use Rattle.nb_outbox.specs.Spelled.{cell_of_record, IsId, IsRecord}
use Rattle.nb_saga_store.specs.Spelled.{place_of, cell_of_saga, cell_of_row, IsStoredSaga, IsStoredRow}
use Rattle.nb_saga_store.specs.declared.stored.StoredRow.{StoredRow}
use Rattle.nb_saga_store.specs.declared.stored.StoredSaga.{StoredSaga}
use Rattle.nb_store.specs.CellMaps.{spelled_count}
use Rattle.nb_store.specs.Kept.{IsKept}
use Rattle.nb_store.specs.declared.fault.StoreFault.{StoreFault}
use Rattle.nb_store.specs.declared.fault.StoreFault.TheVariants.{Failed, Damaged, Spent, NoMemory}
use Rattle.nb_store.specs.declared.parts.Parts.{Parts}

-- no commits, and nothing stored
abbrev pub no_tables : Tables
no_tables = record { sagas = map.empty; rows = map.empty; outbox = map.empty; commits = 0 }

-- what one cell stands for
pub data Part : Type 0 where
  count : ℕ → Part
  saga : StoredSaga → Part
  row : StoredRow → Part
  handled : List ℕ → OutboxRow → Part

abbrev pub cell_of_count : ℕ → Cell
cell_of_count n = record { space = 1; key = []; bytes = spelled_count n }

abbrev pub cell_of : Part → Cell
cell_of (count n) = cell_of_count n
cell_of (saga s) = cell_of_saga s
cell_of (row r) = cell_of_row r
cell_of (handled id r) = cell_of_record id r

-- ---- the bounds, beside the tables of the cells before; each place is there once

pub record IsFitCount (t : Tables) (n : ℕ) : Type 0 where
  pub new : t.commits ≡ 0
  pub from : 1 ≤ n
  pub to : n ≤ limit

pub record IsFitSaga (t : Tables) (s : StoredSaga) : Type 0 where
  pub spelled : IsStoredSaga s
  pub new : map.get t.sagas (place_of s) ≡ None
  pub version : IsVersion t.commits s.row.version
  pub id : IsSagaId t.commits s.row.id
  pub new_id : (place : SagaKey) (row : SagaRow) → map.get t.sagas place ≡ Some row → row.id ≢ s.row.id

pub record IsFitRow (t : Tables) (r : StoredRow) : Type 0 where
  pub spelled : IsStoredRow r
  pub new : map.get t.rows r.name ≡ None
  pub version : IsVersion t.commits r.version

pub record IsFitRecord (t : Tables) (id : List ℕ) (r : OutboxRow) : Type 0 where
  pub named : IsId id
  pub spelled : IsRecord r
  pub new : map.get t.outbox id ≡ None
  pub number : IsVersion t.commits r.n
  pub few : length r.ops ≤ 4096
  pub new_number : (i : List ℕ) (a : OutboxRow) → map.get t.outbox i ≡ Some a → a.n ≢ r.n

abbrev pub Fits : Tables → Part → Type 0
Fits t (count n) = IsFitCount t n
Fits t (saga s) = IsFitSaga t s
Fits t (row r) = IsFitRow t r
Fits t (handled id r) = IsFitRecord t id r

-- the tables with one part more
abbrev pub with_part : Tables → Part → Tables
with_part t (count n) = record t { commits = n }
with_part t (saga s) = record t { sagas = map.insert t.sagas (place_of s) s.row }
with_part t (row r) = record t { rows = map.insert t.rows r.name (record { version = r.version; value = r.value }) }
with_part t (handled id r) = record t { outbox = map.insert t.outbox id r }

-- ---- cells in order

-- the cell is in the grammar and the bounds
abbrev pub IsGood : Tables → Cell → Type 0
IsGood t c = (p : Part) × (c ≡ cell_of p) × Fits t p

abbrev pub Joined : Tables → Cell → Tables → Type 0
Joined t c u = (p : Part) × (c ≡ cell_of p) × Fits t p × (u ≡ with_part t p)

-- each cell in the order joins the tables of those before it
abbrev pub Joins : List Cell → Tables → Tables → Type 0
Joins [] t u = t ≡ u
Joins (c ∷ cs) t u = (v : Tables) × Joined t c v × Joins cs v u

-- the first cell in the order that is outside the grammar and the bounds
pub record IsFirstFault (cells : List Cell) (t : Tables) (space : ℕ) (key : List ℕ) : Type 0 where
  pub before : List Cell
  pub cell : Cell
  pub after : List Cell
  pub found : Tables
  pub order : cells ≡ before ++ cell ∷ after
  pub good : Joins before t found
  pub bad : IsGood found cell → ⊥
  pub space_is : space ≡ cell.space
  pub key_is : key ≡ cell.key

-- ---- what the loading keeps

-- the id of each record, and of no other, stands under its number
pub record IsNumbered (outbox : ByName OutboxRow) (numbers : ByNumber (List ℕ)) : Type 0 where
  pub found : (id : List ℕ) (r : OutboxRow) → map.get outbox id ≡ Some r → map.get numbers r.n ≡ Some id
  pub only : (n : ℕ) (id : List ℕ) → map.get numbers n ≡ Some id → (r : OutboxRow) × (map.get outbox id ≡ Some r) × (r.n ≡ n)

pub record IsOpen (p : Parts) : Type 0 where
  pub kept : IsKept p.tables p.ids
  pub numbered : IsNumbered p.tables.outbox p.numbers

-- a cell was read
abbrev pub ReadsCell : {T : Type 0} → Parts → Cell → Parts → Result T StoreFault → Type 0
ReadsCell p c q (Ok x) = IsOpen q × Joined p.tables c q.tables
ReadsCell p c q (Err Failed) = ⊥
ReadsCell p c q (Err (Damaged space key)) = (IsGood p.tables c → ⊥) × (space ≡ c.space) × (key ≡ c.key)
ReadsCell p c q (Err Spent) = ⊥
ReadsCell p c q (Err NoMemory) = Unit {0}

-- the fault names the cell, unless memory ran out
abbrev pub IsDamaged : Cell → StoreFault → Type 0
IsDamaged c Failed = ⊥
IsDamaged c (Damaged space key) = (space ≡ c.space) × (key ≡ c.key)
IsDamaged c Spent = ⊥
IsDamaged c NoMemory = Unit {0}

-- a part that was read of a cell is added
abbrev pub AddsPart : {T : Type 0} → Parts → Part → Cell → Parts → Result T StoreFault → Type 0
AddsPart p part c q (Ok x) = IsOpen q × Fits p.tables part × (q.tables ≡ with_part p.tables part)
AddsPart p part c q (Err Failed) = ⊥
AddsPart p part c q (Err (Damaged space key)) = (Fits p.tables part → ⊥) × (space ≡ c.space) × (key ≡ c.key)
AddsPart p part c q (Err Spent) = ⊥
AddsPart p part c q (Err NoMemory) = Unit {0}

-- cells were read, one after the other
abbrev pub ReadsCells : {T : Type 0} → Parts → List Cell → Parts → Result T StoreFault → Type 0
ReadsCells p cs q (Ok x) = IsOpen q × Joins cs p.tables q.tables
ReadsCells p cs q (Err Failed) = ⊥
ReadsCells p cs q (Err (Damaged space key)) = IsFirstFault cs p.tables space key
ReadsCells p cs q (Err Spent) = ⊥
ReadsCells p cs q (Err NoMemory) = Unit {0}
