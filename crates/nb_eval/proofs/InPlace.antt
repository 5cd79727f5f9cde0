-- Storing in place, seen by an index.
use Rattle.std.proofs.Common.{◌≡◌, ℕ, zero, suc, ◌<◌, ◌≤◌, ℤ, true, List, [], ◌∷◌, ◌++◌, length, take, drop, get_or, set, Option, Some, None, ap, refl, sym, ◌∙◌, arith}
use Rattle.std.specs.Str.{bytes_eq}
use Rattle.nb_eval.specs.declared.scene.Touched.{Touched}
use Rattle.nb_base.specs.declared.value.Field.{Field}
use Rattle.nb_base.specs.declared.value.Value.{Value}
use Rattle.nb_eval.specs.Statements.{with_field, behind}
use Rattle.nb_eval.specs.Worlds.{stored}

pub stored-here : (name : List ℕ) (v : Option ℤ) (ts : List Touched) (i : ℕ) (d : Touched) → i < length ts → bytes_eq (get_or ts i d).name name ≡ true →
    take i ts ++ stored name v (drop i ts) ≡ set ts i (record { name = name; value = v })
stored-here name v [] i d h e = absurd (omega arith)
stored-here name v (t ∷ ts) zero d h e = rw e refl
stored-here name v (t ∷ ts) (suc i) d h e = ap (λ r. t ∷ r) (stored-here name v ts i d (omega arith) e)

pub stored-end : (name : List ℕ) (v : Option ℤ) (ts : List Touched) (i : ℕ) → length ts ≤ i →
    take i ts ++ stored name v (drop i ts) ≡ ts ++ record { name = name; value = v } ∷ []
stored-end name v [] zero h = refl
stored-end name v [] (suc i) h = refl
stored-end name v (t ∷ ts) zero h = absurd (omega arith)
stored-end name v (t ∷ ts) (suc i) h = ap (λ r. t ∷ r) (stored-end name v ts i (omega arith))

behind-two : (f : Field) (front : List Field) (o : Option (List Field)) → behind (f ∷ front) o ≡ behind (f ∷ []) (behind front o)
behind-two f front None = refl
behind-two f front (Some fs) = refl

pub with_field-here : (name : List ℕ) (v : Value) (fs : List Field) (i : ℕ) (d : Field) → i < length fs → bytes_eq (get_or fs i d).name name ≡ true →
    behind (take i fs) (with_field name v (drop i fs)) ≡ Some (set fs i (record { name = name; value = v }))
with_field-here name v [] i d h e = absurd (omega arith)
with_field-here name v (f ∷ fs) zero d h e = rw e refl
with_field-here name v (f ∷ fs) (suc i) d h e = behind-two f (take i fs) (with_field name v (drop i fs)) ∙ ap (behind (f ∷ [])) (with_field-here name v fs i d (omega arith) e)

pub with_field-end : (name : List ℕ) (v : Value) (fs : List Field) (i : ℕ) → length fs ≤ i →
    behind (take i fs) (with_field name v (drop i fs)) ≡ None
with_field-end name v [] zero h = refl
with_field-end name v [] (suc i) h = refl
with_field-end name v (f ∷ fs) zero h = absurd (omega arith)
with_field-end name v (f ∷ fs) (suc i) h = behind-two f (take i fs) (with_field name v (drop i fs)) ∙ ap (behind (f ∷ [])) (with_field-end name v fs i (omega arith))

pub stored_set : (name : List ℕ) (v : Option ℤ) (before rows after : List Touched) (i : ℕ) (t : Touched) → rows ≡ before →
    stored name v rows ≡ take i rows ++ stored name v (drop i rows) → i < length rows → bytes_eq (get_or rows i t).name name ≡ true →
    after ≡ set rows i (record { name = name; value = v }) → after ≡ stored name v before
stored_set name v before rows after i t same so_far h here made =
    made ∙ sym (stored-here name v rows i t h here) ∙ sym so_far ∙ ap (stored name v) same

pub stored_push : (name : List ℕ) (v : Option ℤ) (before rows after : List Touched) (i : ℕ) → rows ≡ before →
    stored name v rows ≡ take i rows ++ stored name v (drop i rows) → length rows ≤ i → after ≡ rows ++ record { name = name; value = v } ∷ [] →
    after ≡ stored name v before
stored_push name v before rows after i same so_far h made = made ∙ sym (stored-end name v rows i h) ∙ sym so_far ∙ ap (stored name v) same

pub field_set : (name : List ℕ) (v : Value) (before fields after : List Field) (i : ℕ) (t : Field) → fields ≡ before →
    with_field name v fields ≡ behind (take i fields) (with_field name v (drop i fields)) → i < length fields → bytes_eq (get_or fields i t).name name ≡ true →
    after ≡ set fields i (record { name = name; value = v }) → with_field name v before ≡ Some after
field_set name v before fields after i t same so_far h here made =
    ap (with_field name v) (sym same) ∙ so_far ∙ with_field-here name v fields i t h here ∙ ap Some (sym made)

pub field_absent : (name : List ℕ) (v : Value) (before fields : List Field) (i : ℕ) → fields ≡ before →
    with_field name v fields ≡ behind (take i fields) (with_field name v (drop i fields)) → length fields ≤ i → with_field name v before ≡ None
field_absent name v before fields i same so_far h = ap (with_field name v) (sym same) ∙ so_far ∙ with_field-end name v fields i h
