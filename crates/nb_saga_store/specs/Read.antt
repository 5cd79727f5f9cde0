-- Sagas and rows read from their cells, or nothing where a cell is the spelling of none.
use Rattle.std.specs.Prelude.{◌==◌, ◌&&◌, ℕ, List, [], ◌∷◌, map, Bool, true, false, not, nat_lt, bytes_eq, if◌then◌else◌, Option, Some, None}
use Rattle.std.specs.List.{list_any}
use Rattle.std.specs.Str.{is_utf8}
use Rattle.nb_base.specs.declared.saga_key.SagaKey.{SagaKey}
use Rattle.nb_base.specs.declared.saga_row.SagaRow.{SagaRow}
use Rattle.nb_base.specs.declared.tables.Row.{Row}
use Rattle.nb_base.specs.declared.value.Field.{Field}
use Rattle.nb_base.specs.declared.value.Value.{Value}
use Rattle.nb_base.specs.declared.value.Value.TheVariants as value
use Rattle.nb_envelope.specs.Cells.{◌>>=◌, u32_in, u64_in, int_in, text_in, value_in, list_in, whole}
use Rattle.nb_saga_store.specs.declared.stored.StoredSaga.{StoredSaga}
use Rattle.nb_saga_store.specs.declared.stored.StoredRow.{StoredRow}

-- a number or a text
abbrev pub can_correlate : Value → Bool
can_correlate (value.Int n) = true
can_correlate (value.Text t) = true
can_correlate (value.Bool b) = false

-- two values, one after the other
abbrev pub both_in : {A B : Type 0} → (List ℕ → Option (A × List ℕ)) → (List ℕ → Option (B × List ℕ)) → List ℕ → Option ((A × B) × List ℕ)
both_in first second bytes = first bytes >>= λ x. second x.1 >>= λ y. Some ((x.0, y.0), y.1)

unfoldable pub place_in : List ℕ → Option (SagaKey × List ℕ)
place_in bytes = do
  saga ← text_in bytes
  corr ← value_in saga.1
  if can_correlate corr.0 then Some (record { saga = saga.0; corr = corr.0 }, corr.1) else None

unfoldable pub field_in : List ℕ → Option (Field × List ℕ)
field_in bytes = do
  name ← text_in bytes
  value ← value_in name.1
  Some (record { name = name.0; value = value.0 }, value.1)

abbrev pub are_once : List (List ℕ) → Bool
are_once [] = true
are_once (name ∷ names) = not (list_any (bytes_eq name) names) && are_once names

-- each name once
abbrev pub have_distinct_names : List Field → Bool
have_distinct_names fields = are_once (map (λ (f : Field). f.name) fields)

unfoldable pub fields_in : List ℕ → Option (List Field × List ℕ)
fields_in bytes = do
  fields ← list_in field_in bytes
  if have_distinct_names fields.0 then Some fields else None

-- a revision that isn't the first one
unfoldable pub later_in : List ℕ → Option (ℕ × List ℕ)
later_in bytes = do
  revision ← u32_in bytes
  if nat_lt 1 revision.0 then Some revision else None

unfoldable pub revision_in : List ℕ → Option (ℕ × List ℕ)
revision_in [] = None
revision_in (format ∷ rest) = if format == 1 then Some (1, rest) else (if format == 2 then later_in rest else None)

-- the row of the saga with this correlation value
unfoldable pub saga_in : Value → List ℕ → Option (SagaRow × List ℕ)
saga_in corr bytes = do
  revision ← revision_in bytes
  id ← text_in revision.1
  version ← u64_in id.1
  originator ← text_in version.1
  original ← text_in originator.1
  fields ← fields_in original.1
  Some (record { corr = corr; id = id.0; version = version.0; revision = revision.0; originator = originator.0; original = original.0; fields = fields.0 }, fields.1)

unfoldable pub row_in : List ℕ → Option (Row × List ℕ)
row_in [] = None
row_in (format ∷ rest) =
    if format == 1 then (u64_in rest >>= λ version. int_in version.1 >>= λ value. Some (record { version = version.0; value = value.0 }, value.1)) else None

-- the saga under a key
unfoldable pub saga_of : List ℕ → List ℕ → Option StoredSaga
saga_of key bytes = do
  place ← whole place_in key
  row ← whole (saga_in place.corr) bytes
  Some (record { saga = place.saga; row = row })

-- the row under a name
unfoldable pub row_of : List ℕ → List ℕ → Option StoredRow
row_of key bytes =
    if is_utf8 key then (whole row_in bytes >>= λ row. Some (record { name = key; version = row.version; value = row.value })) else None
