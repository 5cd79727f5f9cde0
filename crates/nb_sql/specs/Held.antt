-- What a connection tells of the cells.
use Rattle.std.specs.Prelude.{◌≡◌, ℕ, pos, List, Some, IsTrue, true}
use Rattle.sqlite.specs.declared.types.Value.TheVariants.{Int, Blob}
use Rattle.sqlite.specs.Order.{Row, column}
use Rattle.sqlite.specs.Tree.{Trees}
use Rattle.sqlite.specs.Effect.{IsDatabase}
use Rattle.sqlite_catalog.specs.Listing.{IsSound}
use Rattle.sqlite_trees.specs.View.{IsShaped}
use Rattle.sqlite_trees.specs.declared.store.Shape.TheVariants.{Table}
use Rattle.sqlite_rules.specs.Lists.{Has}
use Rattle.sqlite_trees.specs.declared.store.Store.{Ghosts}
use Rattle.sqlite.specs.State.{State}
use Rattle.nb_cells.specs.Cells.{CellMap}
use Rattle.nb_sql.specs.Statements.{cells_schema}

-- the row stands at this place and holds these bytes
pub record IsCell (space : ℕ) (key bytes : List ℕ) (r : Row) : Type 0 where
  pub space_is : column r 1 ≡ Int (pos space)
  pub key_is : column r 2 ≡ Blob key
  pub bytes_is : column r 3 ≡ Blob bytes

-- the rows are the cells of the map, and maybe rows that are no cell
pub record Shows (rows : List Row) (m : CellMap) : Type 0 where
  pub sound : (r : Row) (space : ℕ) (key bytes : List ℕ) → Has rows r → IsCell space key bytes r → m space key ≡ Some bytes
  pub complete : (space : ℕ) (key bytes : List ℕ) → m space key ≡ Some bytes → (r : Row) × Has rows r × IsCell space key bytes r

-- the connection is idle, and its table is the one of the first text
pub record IsReady (s : State) : Type 0 where
  pub schema : s.now.schema ≡ cells_schema
  pub sound : IsDatabase s.now
  pub shaped : IsShaped Table (s.now.trees 0)
  pub kept : s.committed ≡ s.now

-- the trees are a database with the one table, which shows the map
pub record Holds (db : Trees) (m : CellMap) : Type 0 where
  pub sound : IsSound cells_schema db
  pub shows : Shows (db 0) m

-- each image is this map
pub record Tells (s : State) (m : CellMap) : Type 0 where
  pub ready : IsTrue s.is_open → IsReady s
  pub images : (db : Trees) → s.may_leave db → Holds db m

-- the connection is open, and its table has the cells of the map
pub record HasCells (s : State) (m : CellMap) : Type 0 where
  pub is_open : IsTrue s.is_open
  pub ready : IsReady s
  pub shows : Shows (s.now.trees 0) m

-- something that may be found shows the map, or hasn't the one table: then any map may be found
abbrev pub IsImage : State → CellMap → Type 0
IsImage s m = (db : Trees) × s.may_leave db × (IsSound cells_schema db → Shows (db 0) m)

-- what an open transaction sees
pub record Seen (s : State) (m : CellMap) : Type 0 where
  pub schema : s.now.schema ≡ cells_schema
  pub sound : IsDatabase s.now
  pub shaped : IsShaped Table (s.now.trees 0)
  pub shows : Shows (s.now.trees 0) m

abbrev pub Sees : State → CellMap → Type 0
Sees s m = IsTrue s.is_open → Seen s m

-- no fault shuts a store of this kind
abbrev pub IsLasting : {S : Type 0} → Ghosts S → Type 0
IsLasting {S} g = (s : S) → IsTrue (g.view s).is_open

-- the connection is open, in a transaction
abbrev pub IsRunning : State → Type 0
IsRunning s = IsTrue s.is_open × (s.in_transaction ≡ true)
