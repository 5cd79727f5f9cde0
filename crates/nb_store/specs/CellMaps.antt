-- The cells of tables.
use Rattle.std.specs.Prelude.{◌≡◌, ℕ, List, [], ◌∷◌, ◌++◌, ◌==◌, length, if◌then◌else◌, Option, Some, None}
use Rattle.std.specs.FinMap as map
use Rattle.nb_base.specs.Orders.{ByName}
use Rattle.nb_base.specs.declared.entry.OutboxRow.{OutboxRow}
use Rattle.nb_base.specs.declared.tables.Tables.{Tables}
use Rattle.nb_cells.specs.Cells.{CellMap, IsSpace}
use Rattle.nb_envelope.specs.Spelling.{spelled_u64}
use Rattle.nb_outbox.specs.Spelled.{spelled_record}
use Rattle.nb_saga_store.specs.Maps.{spelled_at, saga_bytes, row_bytes}

-- format 1 and the number
abbrev pub spelled_count : ℕ → List ℕ
spelled_count n = (1 ∷ []) ++ spelled_u64 n

-- the number of commits stands under the empty key, where it isn't 0
abbrev pub count_bytes : ℕ → List ℕ → Option (List ℕ)
count_bytes n key = if length key == 0 then (if n == 0 then None else Some (spelled_count n)) else None

-- the bytes of the records, by their ids
abbrev pub record_bytes : ByName OutboxRow → List ℕ → Option (List ℕ)
record_bytes records key = spelled_at (λ id. id) spelled_record (map.entries records) key

-- the number of commits in space 1, the sagas in space 2, the rows in space 3 and the records in space 4
abbrev pub cells : Tables → CellMap
cells t space key =
    if space == 1 then count_bytes t.commits key
    else (if space == 2 then saga_bytes t.sagas key
    else (if space == 3 then row_bytes t.rows key
    else (if space == 4 then record_bytes t.outbox key
    else None)))

-- the map has the cells of the tables
abbrev pub HasCells : CellMap → Tables → Type 0
HasCells m t = (space : ℕ) (key : List ℕ) → IsSpace space → m space key ≡ cells t space key

-- the map that the store tells has the cells of the tables
pub record Shows {C : Type 0} (now : C → CellMap → Type 0) (store : C) (t : Tables) : Type 0 where
  pub map : CellMap
  pub told : now store map
  pub cells : HasCells map t
