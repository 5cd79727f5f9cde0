-- What is in sight of a block of a saga is what its type declares.
use Rattle.std.proofs.Common.{◌≡◌, ℕ, ℤ, pos, refl, sym, ap, ◌∙◌, List, [], ◌∷◌, Bool, true, false, ◌&&◌, Option, Some, None, option_map, option_and_then, cond, true≢false}
use Rattle.std.specs.Prelude.{int_le, nat_le}
use Rattle.std.specs.List.{AllByRecursion}
use Rattle.std.specs.Str.{bytes_eq}
use Rattle.serde_json.specs.Data.{Data, null, boolean, number, string, array, object}
use Rattle.serde_json.specs.Find.{get, as_bool, as_i64, as_number, as_str}
use Rattle.nb_base.specs.declared.saga_row.SagaRow.{SagaRow}
use Rattle.nb_base.specs.declared.value.Field.{Field}
use Rattle.nb_base.specs.declared.value.Value.{Value}
use Rattle.nb_base.specs.declared.value.Value.TheVariants.{Int, Text, Bool as Truth}
use Rattle.nb_script.specs.declared.item.FieldKind.{FieldKind}
use Rattle.nb_script.specs.declared.item.FieldKind.TheVariants as kind
use Rattle.nb_check.specs.Bodies.{given, member_value, named as named_field, before, fields_in, object_fields, json_of, without_mark, decoded}
use Rattle.nb_check.specs.Declarations.{default_of}
use Rattle.nb_check.specs.Fits.{kind_of, is_there, is_field, fits_fields, fits_type, first_field, lifted_fields}
use Rattle.nb_check.specs.Kinds.{is_kind}
use Rattle.nb_check.specs.declared.sight.SagaSight.{SagaSight}
use Rattle.nb_check.specs.declared.types.Declared.{Declared}
use Rattle.nb_check.specs.declared.types.SagaType.{SagaType}
use Rattle.nb_check.specs.declared.types.StateField.{StateField}
use Rattle.nb_eval.specs.Blocks.{stored_instance, first_fields, new_instance}
use Rattle.nb_eval.specs.Worlds.{World}
use Rattle.nb_eval.proofs.Steps.{and-left, and-right}
use Rattle.nb_eval.proofs.SameKeys.{bytes-is}
use Rattle.nb_eval.proofs.Sights.{declared, instance_sight, kind-is}
use Rattle.nb_eval.proofs.CheckedBlocks.{state_declared, type_sight, IsGoodField, IsGoodType}

abbrev one : List ℕ → FieldKind → List Declared → List Declared
one n k ds = record { name = n; kind = k } ∷ ds

first-declared : (revision : ℤ) (fs : List StateField) → AllByRecursion (IsGoodField revision) fs → declared (first_fields fs) ≡ state_declared fs
first-declared revision [] h = refl
first-declared revision (f ∷ fs) h = ap (λ k. one f.name k (declared (first_fields fs))) h.0.1 ∙ ap (one f.name f.kind) (first-declared revision fs h.1)

lifted-declared : (revision : ℤ) (n : ℕ) (fs : List StateField) (vs : List Field) → AllByRecursion (IsGoodField revision) fs → fits_fields n fs vs ≡ true → declared (lifted_fields n fs vs) ≡ state_declared fs
lifted-declared revision n [] [] h e = refl
lifted-declared revision n [] (v ∷ vs) h e = absurd (true≢false (sym e))
lifted-declared revision n (f ∷ fs) [] h e =
    (elim (is_there n f) as (λ b. cond b false (fits_fields n fs []) ≡ true → declared (first_field f ∷ lifted_fields n fs []) ≡ state_declared (f ∷ fs)) [
      | true ↦ λ e. absurd (true≢false (sym e))
      | false ↦ λ e. ap (λ k. one f.name k (declared (lifted_fields n fs []))) h.0.1 ∙ ap (one f.name f.kind) (lifted-declared revision n fs [] h.1 e)
    ]) e
lifted-declared revision n (f ∷ fs) (v ∷ vs) h e =
    (elim (is_there n f) as (λ b. cond b (is_field f v && fits_fields n fs vs) (fits_fields n fs (v ∷ vs)) ≡ true →
    declared (cond b (v ∷ lifted_fields n fs vs) (first_field f ∷ lifted_fields n fs (v ∷ vs))) ≡ state_declared (f ∷ fs)) [
      | true ↦ λ e.
          let same = and-left (is_field f v) _ e in
          ap (λ x. one x (kind_of v.value) (declared (lifted_fields n fs vs))) (sym (bytes-is f.name v.name (and-left (bytes_eq f.name v.name) _ same)))
          ∙ ap (λ k. one f.name k (declared (lifted_fields n fs vs))) (kind-is (kind_of v.value) f.kind (and-right (bytes_eq f.name v.name) _ same))
          ∙ ap (one f.name f.kind) (lifted-declared revision n fs vs h.1 (and-right (is_field f v) _ e))
      | false ↦ λ e. ap (λ k. one f.name k (declared (lifted_fields n fs (v ∷ vs)))) h.0.1 ∙ ap (one f.name f.kind) (lifted-declared revision n fs (v ∷ vs) h.1 e)
    ]) e

last-two : (a b c d : Bool) → (a && b && c && d) ≡ true → (c ≡ true) × (d ≡ true)
last-two true true true true h = (refl, refl)
last-two false b c d h = absurd (cc)
last-two true false c d h = absurd (cc)
last-two true true false d h = absurd (cc)
last-two true true true false h = absurd (cc)

abbrev sight_with : SagaType → FieldKind → List Declared → SagaSight
sight_with t k ds = record { correlation = t.correlation.name; fields = one t.correlation.name k ds; timeouts = t.timeouts }

-- of a saga that was found
pub stored-sight : (t : SagaType) (row : SagaRow) → IsGoodType t → fits_type t row ≡ true → instance_sight t.timeouts (stored_instance t row) ≡ type_sight t
stored-sight t row good fits =
    let parts = last-two (nat_le 1 row.revision) (int_le (pos row.revision) t.revision) (is_kind (kind_of row.corr) t.correlation.kind) (fits_fields row.revision t.fields row.fields) fits in
    ap (λ k. sight_with t k (declared (lifted_fields row.revision t.fields row.fields))) (kind-is (kind_of row.corr) t.correlation.kind parts.0)
    ∙ ap (sight_with t t.correlation.kind) (lifted-declared t.revision row.revision t.fields row.fields good.fields parts.1)

-- of a new one
pub new-sight : (t : SagaType) (v : Value) (block : ℕ) (w : World) → IsGoodType t → kind_of v ≡ t.correlation.kind → instance_sight t.timeouts (new_instance t v block w) ≡ type_sight t
new-sight t v block w good is =
    ap (λ k. sight_with t k (declared (first_fields t.fields))) is ∙ ap (sight_with t t.correlation.kind) (first-declared t.revision t.fields good.fields)

-- ---- the fields of a message

map-kind : {A : Type 0} (f : A → Value) (k : FieldKind) → ((a : A) → kind_of (f a) ≡ k) → (o : Option A) (v : Value) → option_map f o ≡ Some v → kind_of v ≡ k
map-kind f k is None v e = absurd (cc)
map-kind f k is (Some a) v e = ap kind_of (sym (some-is (f a) v e)) ∙ is a
  where
    some-is : (a b : Value) → Some a ≡ Some b → a ≡ b
    some-is a b e = cc

given-kind : (k : FieldKind) (d : Data) (v : Value) → given k d ≡ Some v → kind_of v ≡ k
given-kind kind.Int d v e = map-kind Int kind.Int (λ n. refl) (option_and_then as_i64 (as_number d)) v e
given-kind kind.Text d v e = map-kind Text kind.Text (λ t. refl) (as_str d) v e
given-kind kind.Bool d v e = map-kind Truth kind.Bool (λ b. refl) (as_bool d) v e

default-is : (k : FieldKind) (v : Value) → Some (default_of k) ≡ Some v → kind_of v ≡ k
default-is kind.Int v e = ap kind_of (sym (value-is _ v e))
  where
    value-is : (a b : Value) → Some a ≡ Some b → a ≡ b
    value-is a b e = cc
default-is kind.Text v e = ap kind_of (sym (value-is _ v e))
  where
    value-is : (a b : Value) → Some a ≡ Some b → a ≡ b
    value-is a b e = cc
default-is kind.Bool v e = ap kind_of (sym (value-is _ v e))
  where
    value-is : (a b : Value) → Some a ≡ Some b → a ≡ b
    value-is a b e = cc

member-kind : (k : FieldKind) (o : Option Data) (v : Value) → member_value k o ≡ Some v → kind_of v ≡ k
member-kind k None v e = default-is k v e
member-kind k (Some null) v e = default-is k v e
member-kind k (Some (boolean b)) v e = given-kind k (boolean b) v e
member-kind k (Some (number n)) v e = given-kind k (number n) v e
member-kind k (Some (string s)) v e = given-kind k (string s) v e
member-kind k (Some (array ds)) v e = given-kind k (array ds) v e
member-kind k (Some (object ms)) v e = given-kind k (object ms) v e

fields-list : (a b : List Field) → Some a ≡ Some b → a ≡ b
fields-list a b e = cc

fields-kinds : (ds : List Declared) (d : Data) (fs : List Field) → fields_in ds d ≡ Some fs → declared fs ≡ ds
fields-kinds [] d fs e = ap declared (sym (fields-list [] fs e))
fields-kinds (f ∷ ds) d fs e = one-more (member_value f.kind (get f.name d)) (fields_in ds d) (λ v. member-kind f.kind (get f.name d) v) (λ gs. fields-kinds ds d gs) e
  where
    one-more : (o : Option Value) (rest : Option (List Field)) → ((v : Value) → o ≡ Some v → kind_of v ≡ f.kind) → ((gs : List Field) → rest ≡ Some gs → declared gs ≡ ds)
        → before (option_map (named_field f.name) o) rest ≡ Some fs → declared fs ≡ f ∷ ds
    one-more None rest is more e = absurd (cc)
    one-more (Some v) None is more e = absurd (cc)
    one-more (Some v) (Some gs) is more e =
        ap declared (sym (fields-list (named_field f.name v ∷ gs) fs e)) ∙ ap (λ k. one f.name k (declared gs)) (is v refl) ∙ ap (one f.name f.kind) (more gs refl)

object-kinds : (ds : List Declared) (o : Option Data) (fs : List Field) → object_fields ds o ≡ Some fs → declared fs ≡ ds
object-kinds ds None fs e = absurd (cc)
object-kinds ds (Some null) fs e = absurd (cc)
object-kinds ds (Some (boolean b)) fs e = absurd (cc)
object-kinds ds (Some (number n)) fs e = absurd (cc)
object-kinds ds (Some (string s)) fs e = absurd (cc)
object-kinds ds (Some (array xs)) fs e = absurd (cc)
object-kinds ds (Some (object ms)) fs e = fields-kinds ds (object ms) fs e

-- the fields of a body have the declared kinds
pub decoded-kinds : (ds : List Declared) (body : List ℕ) (fs : List Field) → decoded ds body ≡ Some fs → declared fs ≡ ds
decoded-kinds ds body fs e = object-kinds ds (json_of (without_mark body)) fs e
