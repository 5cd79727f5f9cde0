-- The saga that is found by an id: it stands at some place, and where none is found none has the id.
use Rattle.std.proofs.Common.{Ordering, Less, Equal, Greater, ◌≡◌, ◌≢◌, ◌⊎◌, Bool, true, false, true≢false, cond, Some, refl, sym, ap, ◌∙◌, inl, inr, subst, T, ℕ, List, [], ◌∷◌}
use Rattle.std.specs.Prelude.{◌&&◌, bytes_eq}
use Rattle.std.specs.Cmp.{Equal-is}
use Rattle.std.specs.Ordering.{is_lt, eq_by_cmp}
use Rattle.std.specs.FinMap as map
use Rattle.std.specs.FinMap.{find, is_sorted, get-entries, entries_sorted}
use Rattle.std.specs.FinMap.Entries.{below_all}
use Rattle.std.proofs.lemmas.Slice.Eq.{bytes_eq-Decides}
use Rattle.nb_base.proofs.Maps.{places, itself, ties}
use Rattle.nb_base.specs.Orders.{saga_key_cmp, BySaga}
use Rattle.nb_base.specs.Shown.{with_id}
use Rattle.nb_base.specs.declared.saga_key.SagaKey.{SagaKey}
use Rattle.nb_base.specs.declared.saga_row.SagaRow.{SagaRow}

some_is : {A : Type 0} {x y : A} → Some x ≡ Some y → x ≡ y
some_is e = cc

both_true : (a b : Bool) → (a && b) ≡ true → (a ≡ true) × (b ≡ true)
both_true true b e = (refl, e)
both_true false b e = absurd (true≢false (sym e))

parts : (a b : Bool) → T (a && b) → T a × T b
parts true b h = (tt, h)
parts false b h = absurd h

is_less : (o : Ordering) → T (is_lt o) → o ≡ Less
is_less Less h = refl
is_less Equal h = absurd h
is_less Greater h = absurd h

Entries : Type 0
Entries = List (SagaKey × SagaRow)

found_where : (x : SagaKey × SagaRow) (xs : List (SagaKey × SagaRow)) (p : SagaKey) (r : SagaRow) → find saga_key_cmp p (x ∷ xs) ≡ Some r → ((p ≡ x.0) × (r ≡ x.1)) ⊎ ((p ≢ x.0) × (find saga_key_cmp p xs ≡ Some r))
found_where x xs p r = go (eq_by_cmp saga_key_cmp p x.0) refl
  where
    go : (b : Bool) → eq_by_cmp saga_key_cmp p x.0 ≡ b → cond b (Some x.1) (find saga_key_cmp p xs) ≡ Some r → ((p ≡ x.0) × (r ≡ x.1)) ⊎ ((p ≢ x.0) × (find saga_key_cmp p xs ≡ Some r))
    go true e f = inl (ties places p x.0 e, sym (some_is f))
    go false e f = inr (λ same. true≢false (sym (subst (λ z. eq_by_cmp saga_key_cmp p z ≡ true) same (itself places p)) ∙ e), f)

found_here : (x : SagaKey × SagaRow) (xs : List (SagaKey × SagaRow)) → find saga_key_cmp x.0 (x ∷ xs) ≡ Some x.1
found_here x xs = ap (λ b. cond b (Some x.1) (find saga_key_cmp x.0 xs)) (itself places x.0)

found_above : (k : SagaKey) (xs : List (SagaKey × SagaRow)) (p : SagaKey) (r : SagaRow) → T (below_all saga_key_cmp k xs) → find saga_key_cmp p xs ≡ Some r → saga_key_cmp k p ≡ Less
found_above k [] p r h f = absurd (cc)
found_above k (x ∷ xs) p r h f = go (found_above k xs p r (parts _ _ h).1) (found_where x xs p r f)
  where
    go : (find saga_key_cmp p xs ≡ Some r → saga_key_cmp k p ≡ Less) → ((p ≡ x.0) × (r ≡ x.1)) ⊎ ((p ≢ x.0) × (find saga_key_cmp p xs ≡ Some r)) → saga_key_cmp k p ≡ Less
    go later (inl q) = ap (saga_key_cmp k) q.0 ∙ is_less (saga_key_cmp k x.0) (parts _ _ h).0
    go later (inr q) = later q.1

found_later : (x : SagaKey × SagaRow) (xs : List (SagaKey × SagaRow)) (p : SagaKey) → saga_key_cmp x.0 p ≡ Less → find saga_key_cmp p (x ∷ xs) ≡ find saga_key_cmp p xs
found_later x xs p less = go (eq_by_cmp saga_key_cmp p x.0) refl
  where
    go : (b : Bool) → eq_by_cmp saga_key_cmp p x.0 ≡ b → cond b (Some x.1) (find saga_key_cmp p xs) ≡ find saga_key_cmp p xs
    go true e =
        let same : p ≡ x.0 = ties places p x.0 e in
        let self : saga_key_cmp x.0 x.0 ≡ Equal = (Equal-is (saga_key_cmp x.0 x.0)).0 (itself places x.0) in
        let z : Less ≡ Equal = sym less ∙ ap (saga_key_cmp x.0) same ∙ self in
        absurd (cc)
    go false e = refl

module _ (saga id : List ℕ) where
  with_id_found : (es : List (SagaKey × SagaRow)) → T (is_sorted saga_key_cmp es) → (r : SagaRow) → with_id saga id es ≡ Some r
      → (p : SagaKey) × (find saga_key_cmp p es ≡ Some r) × (p.saga ≡ saga) × (r.id ≡ id)
  with_id_found [] h r e = absurd (cc)
  with_id_found (x ∷ xs) h r e = go (with_id_found xs (parts _ _ h).1 r) (bytes_eq x.0.saga saga && bytes_eq x.1.id id) refl e
    where
      go : (with_id saga id xs ≡ Some r → (p : SagaKey) × (find saga_key_cmp p xs ≡ Some r) × (p.saga ≡ saga) × (r.id ≡ id))
          → (b : Bool) → (bytes_eq x.0.saga saga && bytes_eq x.1.id id) ≡ b → cond b (Some x.1) (with_id saga id xs) ≡ Some r
          → (p : SagaKey) × (find saga_key_cmp p (x ∷ xs) ≡ Some r) × (p.saga ≡ saga) × (r.id ≡ id)
      go later true t f =
          let both = both_true _ _ t in
          let is : x.1 ≡ r = some_is f in
          (x.0, found_here x xs ∙ f, (bytes_eq-Decides x.0.saga saga).0 both.0, ap (λ (y : SagaRow). y.id) (sym is) ∙ (bytes_eq-Decides x.1.id id).0 both.1)
      go later false t f =
          let q = later f in
          (q.0, found_later x xs q.0 (found_above x.0 xs q.0 r (parts _ _ h).0 q.1) ∙ q.1, q.2, q.3)

-- the saga that an id finds stands at a place of its type
pub found_by_id : (m : BySaga SagaRow) (saga id : List ℕ) (r : SagaRow) → with_id saga id (map.entries m) ≡ Some r → (p : SagaKey) × (map.get m p ≡ Some r) × (p.saga ≡ saga) × (r.id ≡ id)
found_by_id m saga id r e =
    let q = with_id_found saga id (map.entries m) (entries_sorted m) r e in
    (q.0, get-entries m q.0 ∙ q.1, q.2, q.3)
