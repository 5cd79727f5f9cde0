-- The spelling and the reading of places, sagas and rows.
use Rattle.std.specs.Prelude.{◌≡◌, ◌≤◌, ◌<◌, ◌^◌, ◌==◌, ℕ, ℤ, List, [], ◌∷◌, ◌++◌, Bool, true, false, cond, nat_lt, Option, Some, None, refl}
use Rattle.std.proofs.Common.{◌∙◌, ap, sym, subst, arith, append_assoc, ltb-true, lt-ltb, lit<, lit≤}
use Rattle.std.proofs.lemmas.Bool.{eqb-true}
use Rattle.nb_base.specs.Sound.{CanCorrelate}
use Rattle.nb_base.specs.declared.saga_key.SagaKey.{SagaKey}
use Rattle.nb_base.specs.declared.saga_row.SagaRow.{SagaRow}
use Rattle.nb_base.specs.declared.tables.Row.{Row}
use Rattle.nb_base.specs.declared.value.Field.{Field}
use Rattle.nb_base.specs.declared.value.Value.{Value}
use Rattle.nb_base.specs.declared.value.Value.TheVariants as value
use Rattle.nb_envelope.specs.Spelling.{spelled_u32, spelled_u64, spelled_int, spelled_text, spelled_value, spelled_list, IsList}
use Rattle.nb_envelope.specs.Cells.{◌>>=◌, u32_in, u64_in, int_in, text_in, value_in, list_in}
use Rattle.nb_envelope.specs.Formats.{IsBytes, IsFormat}
use Rattle.nb_envelope.proofs.FormatLaws.{Found, IsBytes-rest, some_is, bind_some, test_some, format_u32, format_u64, format_int, format_text, format_test, format_as, format_list}
use Rattle.nb_envelope.proofs.ValueLaws.{format_value}
use Rattle.nb_saga_store.specs.Spelled.{spelled_place, spelled_field, spelled_revision, spelled_saga, spelled_row, IsPlace, IsField, IsFields, IsRevision, IsSagaRow, IsRowOf, IsRow}
use Rattle.nb_saga_store.specs.Read.{can_correlate, place_in, field_in, fields_in, have_distinct_names, later_in, revision_in, saga_in, row_in}
use Rattle.nb_saga_store.proofs.OnceLaws.{distinct_from, once_from}

-- ---- the same bytes seen as another value

pub format_seen : {A B : Type 0} (Is : A → Type 0) (spelled : A → List ℕ) (read : List ℕ → Option (A × List ℕ)) (Is' : B → Type 0) (spelled' : B → List ℕ) (to : A → B) (from : B → A)
    → ((x : A) → Is x → Is' (to x) × (spelled x ≡ spelled' (to x))) → ((y : B) → Is' y → Is (from y) × (to (from y) ≡ y) × (spelled' y ≡ spelled (from y)))
    → IsFormat Is spelled read → IsFormat Is' spelled' (λ bytes. read bytes >>= λ x. Some (to x.0, x.1))
format_seen {A} {B} Is spelled read Is' spelled' to from there back format = record {
  found = λ bytes y rest fits e.
      let b = bind_some (read bytes) (λ x. Some (to x.0, x.1)) (y, rest) e in
      let f = format.found bytes b.0.0 b.0.1 fits b.1 in
      let t = there b.0.0 f.1 in
      let made : B × List ℕ = (to b.0.0, b.0.1) in
      subst (Found Is' spelled' bytes) (some_is made (y, rest) b.2) (f.0 ∙ ap (λ (s : List ℕ). s ++ b.0.1) t.1, t.0, f.2);
  again = λ y rest is.
      let b = back y is in
      rw (b.2, format.again (from y) rest b.0, b.1) refl;
}

-- ---- places

correlates : (v : Value) → can_correlate v ≡ true → CanCorrelate v
correlates (value.Int n) e = tt
correlates (value.Text t) e = tt
correlates (value.Bool b) e = absurd cc

can_from : (v : Value) → CanCorrelate v → can_correlate v ≡ true
can_from (value.Int n) h = refl
can_from (value.Text t) h = refl
can_from (value.Bool b) h = absurd h

place_found : (bytes : List ℕ) (p : SagaKey) (rest : List ℕ) → IsBytes bytes → place_in bytes ≡ Some (p, rest) → Found IsPlace spelled_place bytes (p, rest)
unfolding place_in
place_found bytes p rest fits e =
    let s = bind_some (text_in bytes) (λ saga. value_in saga.1 >>= λ corr. cond (can_correlate corr.0) (Some (record { saga = saga.0; corr = corr.0 }, corr.1)) None) (p, rest) e in
    let c = bind_some (value_in s.0.1) (λ corr. cond (can_correlate corr.0) (Some (record { saga = s.0.0; corr = corr.0 }, corr.1)) None) (p, rest) s.2 in
    let made : SagaKey × List ℕ = (record { saga = s.0.0; corr = c.0.0 }, c.0.1) in
    let t = test_some (can_correlate c.0.0) made (p, rest) c.2 in
    let f = format_text.found bytes s.0.0 s.0.1 fits s.1 in
    let g = format_value.found s.0.1 c.0.0 c.0.1 f.2 c.1 in
    let parts : bytes ≡ spelled_place made.0 ++ c.0.1 = f.0 ∙ ap (λ (x : List ℕ). spelled_text s.0.0 ++ x) g.0 ∙ sym (append_assoc (spelled_text s.0.0) (spelled_value c.0.0) c.0.1) in
    subst (Found IsPlace spelled_place bytes) t.1 (parts, (f.1, g.1, correlates c.0.0 t.0), g.2)

place_again : (p : SagaKey) (rest : List ℕ) → IsPlace p → place_in (spelled_place p ++ rest) ≡ Some (p, rest)
unfolding place_in
place_again p rest is = rw (append_assoc (spelled_text p.saga) (spelled_value p.corr) rest, format_text.again p.saga (spelled_value p.corr ++ rest) is.0, format_value.again p.corr rest is.1, can_from p.corr is.2) refl

pub format_place : IsFormat IsPlace spelled_place place_in
format_place = record { found = place_found; again = place_again }

-- ---- fields

pub format_field : IsFormat IsField spelled_field field_in
unfolding field_in
format_field = record {
  found = λ bytes f rest fits e.
      let n = bind_some (text_in bytes) (λ name. value_in name.1 >>= λ value. Some (record { name = name.0; value = value.0 }, value.1)) (f, rest) e in
      let v = bind_some (value_in n.0.1) (λ value. Some (record { name = n.0.0; value = value.0 }, value.1)) (f, rest) n.2 in
      let made : Field × List ℕ = (record { name = n.0.0; value = v.0.0 }, v.0.1) in
      let a = format_text.found bytes n.0.0 n.0.1 fits n.1 in
      let b = format_value.found n.0.1 v.0.0 v.0.1 a.2 v.1 in
      let parts : bytes ≡ spelled_field made.0 ++ v.0.1 = a.0 ∙ ap (λ (x : List ℕ). spelled_text n.0.0 ++ x) b.0 ∙ sym (append_assoc (spelled_text n.0.0) (spelled_value v.0.0) v.0.1) in
      subst (Found IsField spelled_field bytes) (some_is made (f, rest) v.2) (parts, (a.1, b.1), b.2);
  again = λ f rest is. rw (append_assoc (spelled_text f.name) (spelled_value f.value) rest, format_text.again f.name (spelled_value f.value ++ rest) is.0, format_value.again f.value rest is.1) refl;
}

pub format_fields : IsFormat IsFields (spelled_list spelled_field) fields_in
unfolding fields_in
format_fields =
    format_as _ IsFields (spelled_list spelled_field) fields_in (λ fields is. (is.0, distinct_from _ is.1)) (λ fields is. (is.0, once_from _ is.1))
    (format_test (IsList IsField) (spelled_list spelled_field) (list_in field_in) have_distinct_names (format_list IsField spelled_field field_in format_field))

-- ---- revisions

format_later : IsFormat (λ n. (n < 2 ^ 32) × (nat_lt 1 n ≡ true)) spelled_u32 later_in
unfolding later_in
format_later = format_test (λ n. n < 2 ^ 32) spelled_u32 u32_in (λ n. nat_lt 1 n) format_u32

later_spelled : (n : ℕ) → 1 < n → spelled_revision n ≡ 2 ∷ spelled_u32 n
later_spelled n lt = (elim (n == 1) as (λ b. (n == 1) ≡ b → cond b (1 ∷ []) (2 ∷ spelled_u32 n) ≡ 2 ∷ spelled_u32 n) [
  | true ↦ λ e. absurd (let one = eqb-true n 1 e in omega arith)
  | false ↦ λ e. refl
]) refl

revision_cases : (one two : Bool) (k : ℕ) (bytes : List ℕ) (y : ℕ × List ℕ) → (one ≡ true → k ≡ 1) → (two ≡ true → k ≡ 2) → IsBytes bytes
    → cond one (Some (1, bytes)) (cond two (later_in bytes) None) ≡ Some y → Found IsRevision spelled_revision (k ∷ bytes) y
revision_cases true two k bytes y a b fits e =
    let first : ℕ × List ℕ = (1, bytes) in
    subst (Found IsRevision spelled_revision (k ∷ bytes)) (some_is first y e) (ap (λ n. n ∷ bytes) (a refl), (lit≤ tt, lit< tt), fits)
revision_cases false true k bytes y a b fits e =
    let f = format_later.found bytes y.0 y.1 fits e in
    let lt : 1 < y.0 = ltb-true 1 y.0 f.1.1 in
    (ap (λ n. n ∷ bytes) (b refl) ∙ ap (λ (t : List ℕ). 2 ∷ t) f.0 ∙ ap (λ (t : List ℕ). t ++ y.1) (sym (later_spelled y.0 lt)), (omega arith, f.1.0), f.2)
revision_cases false false k bytes y a b fits e = absurd cc

revision_found : (bytes : List ℕ) (n : ℕ) (rest : List ℕ) → IsBytes bytes → revision_in bytes ≡ Some (n, rest) → Found IsRevision spelled_revision bytes (n, rest)
unfolding revision_in
revision_found [] n rest fits e = absurd cc
revision_found (k ∷ bytes) n rest fits e = revision_cases (k == 1) (k == 2) k bytes (n, rest) (eqb-true k 1) (eqb-true k 2) (IsBytes-rest k bytes fits) e

revision_again : (n : ℕ) (rest : List ℕ) → IsRevision n → revision_in (spelled_revision n ++ rest) ≡ Some (n, rest)
unfolding revision_in
revision_again n rest is =
    (elim (n == 1) as (λ b. (n == 1) ≡ b → revision_in (cond b (1 ∷ []) (2 ∷ spelled_u32 n) ++ rest) ≡ Some (n, rest)) [
      | true ↦ λ e. ap (λ m. Some (m, rest)) (sym (eqb-true n 1 e))
      | false ↦ λ e. format_later.again n rest (is.1, lt-ltb 1 n (above n is.0 e))
    ]) refl
  where
    above : (n : ℕ) → 1 ≤ n → (n == 1) ≡ false → 1 < n
    above n le ne = grind (arith, le, ne)

pub format_revision : IsFormat IsRevision spelled_revision revision_in
format_revision = record { found = revision_found; again = revision_again }

-- ---- sagas

six : (a b c d e f r : List ℕ) → (a ++ b ++ c ++ d ++ e ++ f) ++ r ≡ a ++ (b ++ (c ++ (d ++ (e ++ (f ++ r)))))
six a b c d e f r = simp append_assoc

abbrev Step : Type 0 → Type 0
Step A = A × List ℕ → Option (SagaRow × List ℕ)

abbrev last : Value → ℕ → List ℕ → ℕ → List ℕ → List ℕ → Step (List Field)
last corr revision id version originator original fields =
    Some (record { corr = corr; id = id; version = version; revision = revision; originator = originator; original = original; fields = fields.0 }, fields.1)

abbrev fifth : Value → ℕ → List ℕ → ℕ → List ℕ → Step (List ℕ)
fifth corr revision id version originator original = fields_in original.1 >>= last corr revision id version originator original.0

abbrev fourth : Value → ℕ → List ℕ → ℕ → Step (List ℕ)
fourth corr revision id version originator = text_in originator.1 >>= fifth corr revision id version originator.0

abbrev third : Value → ℕ → List ℕ → Step ℕ
third corr revision id version = text_in version.1 >>= fourth corr revision id version.0

abbrev second : Value → ℕ → Step (List ℕ)
second corr revision id = u64_in id.1 >>= third corr revision id.0

abbrev first : Value → Step ℕ
first corr revision = text_in revision.1 >>= second corr revision.0

saga_found : (corr : Value) (bytes : List ℕ) (row : SagaRow) (rest : List ℕ) → IsBytes bytes → saga_in corr bytes ≡ Some (row, rest) → Found (IsRowOf corr) spelled_saga bytes (row, rest)
unfolding saga_in
saga_found corr bytes row rest fits e =
    let r = bind_some (revision_in bytes) (first corr) (row, rest) e in
    let i = bind_some (text_in r.0.1) (second corr r.0.0) (row, rest) r.2 in
    let v = bind_some (u64_in i.0.1) (third corr r.0.0 i.0.0) (row, rest) i.2 in
    let o = bind_some (text_in v.0.1) (fourth corr r.0.0 i.0.0 v.0.0) (row, rest) v.2 in
    let g = bind_some (text_in o.0.1) (fifth corr r.0.0 i.0.0 v.0.0 o.0.0) (row, rest) o.2 in
    let s = bind_some (fields_in g.0.1) (last corr r.0.0 i.0.0 v.0.0 o.0.0 g.0.0) (row, rest) g.2 in
    let rf = format_revision.found bytes r.0.0 r.0.1 fits r.1 in
    let jf = format_text.found r.0.1 i.0.0 i.0.1 rf.2 i.1 in
    let vf = format_u64.found i.0.1 v.0.0 v.0.1 jf.2 v.1 in
    let of = format_text.found v.0.1 o.0.0 o.0.1 vf.2 o.1 in
    let gf = format_text.found o.0.1 g.0.0 g.0.1 of.2 g.1 in
    let sf = format_fields.found g.0.1 s.0.0 s.0.1 gf.2 s.1 in
    let made : SagaRow × List ℕ = (record { corr = corr; id = i.0.0; version = v.0.0; revision = r.0.0; originator = o.0.0; original = g.0.0; fields = s.0.0 }, s.0.1) in
    let parts : bytes ≡ spelled_saga made.0 ++ s.0.1 =
    rf.0 ∙ ap (λ (t : List ℕ). spelled_revision r.0.0 ++ t) (jf.0 ∙ ap (λ (t : List ℕ). spelled_text i.0.0 ++ t) (vf.0 ∙ ap (λ (t : List ℕ). spelled_u64 v.0.0 ++ t) (of.0
    ∙ ap (λ (t : List ℕ). spelled_text o.0.0 ++ t) (gf.0 ∙ ap (λ (t : List ℕ). spelled_text g.0.0 ++ t) sf.0))))
    ∙ sym (six (spelled_revision r.0.0) (spelled_text i.0.0) (spelled_u64 v.0.0) (spelled_text o.0.0) (spelled_text g.0.0) (spelled_list spelled_field s.0.0) s.0.1) in
    let is : IsSagaRow made.0 = record { revision = rf.1; id = jf.1; version = vf.1; originator = of.1; original = gf.1; fields = sf.1 } in
    subst (Found (IsRowOf corr) spelled_saga bytes) (some_is made (row, rest) s.2) (parts, (refl, is), sf.2)

saga_again : (corr : Value) (row : SagaRow) (rest : List ℕ) → IsRowOf corr row → saga_in corr (spelled_saga row ++ rest) ≡ Some (row, rest)
unfolding saga_in
saga_again corr row rest is =
    let s = spelled_list spelled_field row.fields ++ rest in
    let g = spelled_text row.original ++ s in
    let o = spelled_text row.originator ++ g in
    let v = spelled_u64 row.version ++ o in
    let i = spelled_text row.id ++ v in
    let row_is : record row { corr = corr } ≡ row = λ j. record row { corr = sym is.0 j } in
    ap (saga_in corr) (six (spelled_revision row.revision) (spelled_text row.id) (spelled_u64 row.version) (spelled_text row.originator) (spelled_text row.original) (spelled_list spelled_field row.fields) rest)
    ∙ ap (λ r. r >>= first corr) (format_revision.again row.revision i is.1.revision)
    ∙ ap (λ r. r >>= second corr row.revision) (format_text.again row.id v is.1.id)
    ∙ ap (λ r. r >>= third corr row.revision row.id) (format_u64.again row.version o is.1.version)
    ∙ ap (λ r. r >>= fourth corr row.revision row.id row.version) (format_text.again row.originator g is.1.originator)
    ∙ ap (λ r. r >>= fifth corr row.revision row.id row.version row.originator) (format_text.again row.original s is.1.original)
    ∙ ap (λ r. r >>= last corr row.revision row.id row.version row.originator row.original) (format_fields.again row.fields rest is.1.fields)
    ∙ ap (λ (w : SagaRow). Some (w, rest)) row_is

pub format_saga : (corr : Value) → IsFormat (IsRowOf corr) spelled_saga (saga_in corr)
format_saga corr = record { found = saga_found corr; again = saga_again corr }

-- ---- rows

abbrev number : ℕ → ℤ × List ℕ → Option (Row × List ℕ)
number version value = Some (record { version = version; value = value.0 }, value.1)

abbrev row_after : ℕ × List ℕ → Option (Row × List ℕ)
row_after version = int_in version.1 >>= number version.0

row_cases : (one : Bool) (k : ℕ) (bytes : List ℕ) (y : Row × List ℕ) → (one ≡ true → k ≡ 1) → IsBytes bytes → cond one (u64_in bytes >>= row_after) None ≡ Some y → Found IsRow spelled_row (k ∷ bytes) y
row_cases true k bytes y is fits e =
    let v = bind_some (u64_in bytes) row_after y e in
    let n = bind_some (int_in v.0.1) (number v.0.0) y v.2 in
    let f = format_u64.found bytes v.0.0 v.0.1 fits v.1 in
    let g = format_int.found v.0.1 n.0.0 n.0.1 f.2 n.1 in
    let made : Row × List ℕ = (record { version = v.0.0; value = n.0.0 }, n.0.1) in
    let parts : k ∷ bytes ≡ spelled_row made.0 ++ n.0.1 =
    ap (λ j. j ∷ bytes) (is refl) ∙ ap (λ (t : List ℕ). 1 ∷ t) (f.0 ∙ ap (λ (t : List ℕ). spelled_u64 v.0.0 ++ t) g.0 ∙ sym (append_assoc (spelled_u64 v.0.0) (spelled_int n.0.0) n.0.1)) in
    subst (Found IsRow spelled_row (k ∷ bytes)) (some_is made y n.2) (parts, (f.1, g.1), g.2)
row_cases false k bytes y is fits e = absurd cc

row_found : (bytes : List ℕ) (row : Row) (rest : List ℕ) → IsBytes bytes → row_in bytes ≡ Some (row, rest) → Found IsRow spelled_row bytes (row, rest)
unfolding row_in
row_found [] row rest fits e = absurd cc
row_found (k ∷ bytes) row rest fits e = row_cases (k == 1) k bytes (row, rest) (eqb-true k 1) (IsBytes-rest k bytes fits) e

row_again : (row : Row) (rest : List ℕ) → IsRow row → row_in (spelled_row row ++ rest) ≡ Some (row, rest)
unfolding row_in
row_again row rest is =
    ap (λ (t : List ℕ). u64_in t >>= row_after) (append_assoc (spelled_u64 row.version) (spelled_int row.value) rest)
    ∙ ap (λ r. r >>= row_after) (format_u64.again row.version (spelled_int row.value ++ rest) is.0)
    ∙ ap (λ r. r >>= number row.version) (format_int.again row.value rest is.1)

pub format_row : IsFormat IsRow spelled_row row_in
format_row = record { found = row_found; again = row_again }
