-- The one spelling of a stored saga and of a stored row in cells, and what has one.
use Rattle.std.specs.Prelude.{◌≡◌, ◌<◌, ◌≤◌, ◌^◌, ◌==◌, ℕ, List, [], ◌∷◌, ◌++◌, FitsSigned, if◌then◌else◌}
use Rattle.std.specs.Int.{w64}
use Rattle.nb_base.specs.Sound.{CanCorrelate, HaveDistinctNames}
use Rattle.nb_base.specs.declared.saga_key.SagaKey.{SagaKey}
use Rattle.nb_base.specs.declared.saga_row.SagaRow.{SagaRow}
use Rattle.nb_base.specs.declared.tables.Row.{Row}
use Rattle.nb_base.specs.declared.value.Field.{Field}
use Rattle.nb_base.specs.declared.value.Value.{Value}
use Rattle.nb_cells.specs.declared.cell.Cell.{Cell}
use Rattle.nb_envelope.specs.Spelling.{spelled_u32, spelled_u64, spelled_int, spelled_text, spelled_value, spelled_list, IsText, IsValue, IsList}
use Rattle.nb_saga_store.specs.declared.stored.StoredSaga.{StoredSaga}
use Rattle.nb_saga_store.specs.declared.stored.StoredRow.{StoredRow}

-- the saga's type, and the value
abbrev pub spelled_place : SagaKey → List ℕ
spelled_place place = spelled_text place.saga ++ spelled_value place.corr

-- the name and the value
abbrev pub spelled_field : Field → List ℕ
spelled_field field = spelled_text field.name ++ spelled_value field.value

-- format 1 for the first revision, and format 2 with the revision for any other one
abbrev pub spelled_revision : ℕ → List ℕ
spelled_revision revision = if revision == 1 then 1 ∷ [] else 2 ∷ spelled_u32 revision

-- all of the row but the correlation value, which the key has
abbrev pub spelled_saga : SagaRow → List ℕ
spelled_saga row =
    spelled_revision row.revision ++ spelled_text row.id ++ spelled_u64 row.version ++ spelled_text row.originator ++ spelled_text row.original ++ spelled_list spelled_field row.fields

-- format 1, the version and the number
abbrev pub spelled_row : Row → List ℕ
spelled_row row = (1 ∷ []) ++ spelled_u64 row.version ++ spelled_int row.value

abbrev pub place_of : StoredSaga → SagaKey
place_of s = record { saga = s.saga; corr = s.row.corr }

abbrev pub cell_of_saga : StoredSaga → Cell
cell_of_saga s = record { space = 2; key = spelled_place (place_of s); bytes = spelled_saga s.row }

abbrev pub cell_of_row : StoredRow → Cell
cell_of_row r = record { space = 3; key = r.name; bytes = spelled_row (record { version = r.version; value = r.value }) }

-- ---- what has a spelling

abbrev pub IsPlace : SagaKey → Type 0
IsPlace place = IsText place.saga × IsValue place.corr × CanCorrelate place.corr

abbrev pub IsField : Field → Type 0
IsField field = IsText field.name × IsValue field.value

-- each name once
abbrev pub IsFields : List Field → Type 0
IsFields fields = IsList IsField fields × HaveDistinctNames fields

abbrev pub IsRevision : ℕ → Type 0
IsRevision revision = (1 ≤ revision) × (revision < 2 ^ 32)

pub record IsSagaRow (row : SagaRow) : Type 0 where
  pub revision : IsRevision row.revision
  pub id : IsText row.id
  pub version : row.version < 2 ^ 64
  pub originator : IsText row.originator
  pub original : IsText row.original
  pub fields : IsFields row.fields

-- the row of a saga with this correlation value
abbrev pub IsRowOf : Value → SagaRow → Type 0
IsRowOf corr row = (row.corr ≡ corr) × IsSagaRow row

pub record IsStoredSaga (s : StoredSaga) : Type 0 where
  pub place : IsPlace (place_of s)
  pub row : IsSagaRow s.row

abbrev pub IsRow : Row → Type 0
IsRow row = (row.version < 2 ^ 64) × FitsSigned w64 row.value

pub record IsStoredRow (r : StoredRow) : Type 0 where
  pub name : IsText r.name
  pub row : IsRow (record { version = r.version; value = r.value })
