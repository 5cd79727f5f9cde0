-- What stands in the cells of sagas and rows.
use Rattle.std.specs.Prelude.{◌≡◌, ℕ, List, [], ◌∷◌, bytes_eq, if◌then◌else◌, Option, Some, None}
use Rattle.std.specs.FinMap as map
use Rattle.std.specs.List.{AllByRecursion}
use Rattle.nb_base.specs.Orders.{ByName, BySaga}
use Rattle.nb_base.specs.Shown.{Stored}
use Rattle.nb_base.specs.declared.saga_key.SagaKey.{SagaKey}
use Rattle.nb_base.specs.declared.saga_row.SagaRow.{SagaRow}
use Rattle.nb_base.specs.declared.tables.Row.{Row}
use Rattle.nb_cells.specs.Cells.{CellMap}
use Rattle.nb_envelope.specs.Spelling.{IsText}
use Rattle.nb_saga_store.specs.Spelled.{spelled_place, spelled_saga, spelled_row, IsPlace, IsSagaRow, IsRow}

-- the bytes of the entry whose key is spelled so
abbrev pub spelled_at : {K V : Type 0} → (K → List ℕ) → (V → List ℕ) → List (K × V) → List ℕ → Option (List ℕ)
spelled_at spelled_key spelled [] key = None
spelled_at spelled_key spelled (e ∷ es) key = if bytes_eq key (spelled_key e.0) then Some (spelled e.1) else spelled_at spelled_key spelled es key

-- the bytes of the sagas, by the spellings of their places
abbrev pub saga_bytes : BySaga SagaRow → List ℕ → Option (List ℕ)
saga_bytes sagas key = spelled_at spelled_place spelled_saga (map.entries sagas) key

-- the bytes of the rows, by their names
abbrev pub row_bytes : ByName Row → List ℕ → Option (List ℕ)
row_bytes rows key = spelled_at (λ name. name) spelled_row (map.entries rows) key

-- the cells have these sagas and rows, and no others
pub record HaveStored (m : CellMap) (t : Stored) : Type 0 where
  pub sagas : (key : List ℕ) → m 2 key ≡ saga_bytes t.sagas key
  pub rows : (key : List ℕ) → m 3 key ≡ row_bytes t.rows key

-- what holds of each key with its value
abbrev pub Each : {K V : Type 0} → (K → V → Type 0) → List (K × V) → Type 0
Each P es = AllByRecursion (λ e. P e.0 e.1) es

abbrev pub IsSagaAt : SagaKey → SagaRow → Type 0
IsSagaAt place row = (row.corr ≡ place.corr) × IsPlace place × IsSagaRow row

abbrev pub IsRowAt : List ℕ → Row → Type 0
IsRowAt name row = IsText name × IsRow row

-- every saga and every row has a spelling
pub record AreSpelled (t : Stored) : Type 0 where
  pub sagas : Each IsSagaAt (map.entries t.sagas)
  pub rows : Each IsRowAt (map.entries t.rows)
