-- Stored sagas against what the script declares of their type.
use Rattle.std.specs.Prelude.{ℕ, pos, int_le, nat_abs, nat_le, List, [], ◌∷◌, Bool, true, false, ◌&&◌, bytes_eq, if◌then◌else◌, Option, Some, None}
use Rattle.nb_base.specs.declared.saga_row.SagaRow.{SagaRow}
use Rattle.nb_base.specs.declared.value.Field.{Field}
use Rattle.nb_base.specs.declared.value.Value.{Value}
use Rattle.nb_base.specs.declared.value.Value.TheVariants as value
use Rattle.nb_script.specs.declared.item.FieldKind.{FieldKind}
use Rattle.nb_script.specs.declared.item.FieldKind.TheVariants as kind
use Rattle.nb_check.specs.Kinds.{is_kind}
use Rattle.nb_check.specs.declared.types.SagaType.{SagaType}
use Rattle.nb_check.specs.declared.types.StateField.{StateField}

abbrev pub kind_of : Value → FieldKind
kind_of (value.Int n) = kind.Int
kind_of (value.Text t) = kind.Text
kind_of (value.Bool b) = kind.Bool

-- the first declared saga of this name
abbrev pub saga_named : List ℕ → List SagaType → Option SagaType
saga_named name [] = None
saga_named name (s ∷ ss) = if bytes_eq s.name name then Some s else saga_named name ss

-- a field that a row of this revision has
abbrev pub is_there : ℕ → StateField → Bool
is_there revision f = int_le f.since (pos revision)

abbrev pub is_field : StateField → Field → Bool
is_field f v = bytes_eq f.name v.name && is_kind (kind_of v.value) f.kind

-- exactly the fields that a row of this revision has, in order with their kinds
abbrev pub fits_fields : ℕ → List StateField → List Field → Bool
fits_fields revision [] [] = true
fits_fields revision [] (v ∷ vs) = false
fits_fields revision (f ∷ fs) [] = if is_there revision f then false else fits_fields revision fs []
fits_fields revision (f ∷ fs) (v ∷ vs) = if is_there revision f then is_field f v && fits_fields revision fs vs else fits_fields revision fs (v ∷ vs)

-- a revision from 1 to the declared one, the kind of the correlation property, and the fields
abbrev pub fits_type : SagaType → SagaRow → Bool
fits_type s row = nat_le 1 row.revision && int_le (pos row.revision) s.revision && is_kind (kind_of row.corr) s.correlation.kind && fits_fields row.revision s.fields row.fields

abbrev pub fits_if : Option SagaType → SagaRow → Bool
fits_if None row = true
fits_if (Some s) row = fits_type s row

-- the type isn't declared, or the row fits it
abbrev pub fits : List SagaType → List ℕ → SagaRow → Bool
fits ss name row = fits_if (saga_named name ss) row

-- ---- older rows

abbrev pub first_field : StateField → Field
first_field f = record { name = f.name; value = f.first }

-- the declared fields: those that the row has with their stored values, the others with their first ones
abbrev pub lifted_fields : ℕ → List StateField → List Field → List Field
lifted_fields revision [] vs = []
lifted_fields revision (f ∷ fs) [] = first_field f ∷ lifted_fields revision fs []
lifted_fields revision (f ∷ fs) (v ∷ vs) = if is_there revision f then v ∷ lifted_fields revision fs vs else first_field f ∷ lifted_fields revision fs (v ∷ vs)

abbrev pub lifted : SagaType → SagaRow → SagaRow
lifted s row = record row { revision = nat_abs s.revision; fields = lifted_fields row.revision s.fields row.fields }

abbrev pub lifted_if : Option SagaType → SagaRow → Option SagaRow
lifted_if None row = None
lifted_if (Some s) row = Some (lifted s row)

-- the row with the declared revision and fields
abbrev pub lift : List SagaType → List ℕ → SagaRow → Option SagaRow
lift ss name row = lifted_if (saga_named name ss) row
