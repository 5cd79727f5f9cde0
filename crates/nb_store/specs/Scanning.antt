-- The cells of a map in the order of their places, and what the opening of tables makes of them.
use Rattle.std.specs.Prelude.{◌≡◌, ℕ, List, ◌++◌}
use Rattle.nb_base.specs.declared.tables.Tables.{Tables}
use Rattle.nb_cells.specs.Cells.{CellMap, Scans}
use Rattle.nb_cells.specs.declared.cell.Cell.{Cell}
use Rattle.nb_store.specs.Opening.{Joins, IsFirstFault, no_tables}
use Rattle.nb_store.specs.declared.fault.StoreFault.{StoreFault}
use Rattle.nb_store.specs.declared.fault.StoreFault.TheVariants.{Failed, Damaged, Spent, NoMemory}
use Rattle.nb_store.specs.declared.parts.Scanned.{Scanned}

-- the cells of each space
pub record ScansAll (m : CellMap) (s : Scanned) : Type 0 where
  pub counts : Scans m 1 s.counts
  pub sagas : Scans m 2 s.sagas
  pub rows : Scans m 3 s.rows
  pub records : Scans m 4 s.records

-- the cells of the map, by space, and in a space by keys that ascend by their bytes
pub record AreCellsOf (m : CellMap) (cells : List Cell) : Type 0 where
  pub scanned : Scanned
  pub scans : ScansAll m scanned
  pub order : cells ≡ (scanned.counts ++ scanned.sagas) ++ (scanned.rows ++ scanned.records)

-- tables that all of the cells joined, one after the other
pub record Opens (m : CellMap) (t : Tables) : Type 0 where
  pub cells : List Cell
  pub are : AreCellsOf m cells
  pub joins : Joins cells no_tables t

-- the least cell that is outside the grammar and the bounds
pub record IsLeastFault (m : CellMap) (space : ℕ) (key : List ℕ) : Type 0 where
  pub cells : List Cell
  pub are : AreCellsOf m cells
  pub first : IsFirstFault cells no_tables space key

-- why tables can't be opened, where the store told this map
abbrev pub Refuses : CellMap → StoreFault → Type 0
Refuses m Failed = Unit {0}
Refuses m (Damaged space key) = IsLeastFault m space key
Refuses m Spent = ⊥
Refuses m NoMemory = Unit {0}
