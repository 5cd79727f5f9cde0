-- What a database file and its log hold of the cells.
use Rattle.std.specs.Prelude.{◌≡◌, ◌⊎◌, []}
use Rattle.sqlite.specs.Recovery.{Image}
use Rattle.sqlite.specs.Files.{HoldsDatabase}
use Rattle.sqlite.specs.Tree.{Trees}
use Rattle.sqlite_trees.specs.Objects.{catalog_tree}
use Rattle.sqlite_catalog.specs.Listing.{IsSound}
use Rattle.nb_cells.specs.Cells.{CellMap}
use Rattle.nb_sql.specs.Held.{Shows}
use Rattle.nb_sql.specs.Statements.{cells_schema}

-- the files hold a database with the one table, which shows the map
pub record HoldsCells (image : Image) (m : CellMap) : Type 0 where
  pub db : Trees
  pub holds : HoldsDatabase image db
  pub sound : IsSound cells_schema db
  pub shows : Shows (db 0) m

-- the database file is empty, or the files hold a database in which nothing was made
abbrev pub HoldsNothing : Image → Type 0
HoldsNothing image = (image.db ≡ []) ⊎ ((db : Trees) × HoldsDatabase image db × (db catalog_tree ≡ []))
