-- What stands at keys.
use Rattle.std.specs.Prelude.{◌≡◌, ◌≢◌, ◌≤◌, ℕ, ◌+◌, List, [], ◌∷◌, ◌++◌, length, take, slice_get, Bool, true, false, cond, not, ◌&&◌, bytes_eq, Option, Some, None, refl, T}
use Rattle.std.proofs.Common.{◌∙◌, ap, sym, true≢false, Ordering, Less, Equal, Greater}
use Rattle.std.specs.Ordering.{eq_by_cmp, is_lt, is_eq}
use Rattle.std.specs.Cmp.Lexicographic.{bytes_decides}
use Rattle.std.specs.FinMap as map
use Rattle.std.specs.FinMap.Entries.{find, below_all, is_sorted}
use Rattle.std.proofs.lemmas.List.{take_all}
use Rattle.nb_base.proofs.ListLaws.{take_next}
use Rattle.nb_base.proofs.Maps.{IsExact, places, ties, itself}
use Rattle.nb_base.specs.Orders.{ByName, BySaga, saga_key_cmp}
use Rattle.nb_base.specs.Shown.{Stored, shown, seen, with_id}
use Rattle.nb_base.specs.declared.saga_key.SagaKey.{SagaKey}
use Rattle.nb_base.specs.declared.saga_row.Read.{Read}
use Rattle.nb_base.specs.declared.saga_row.SagaRow.{SagaRow}
use Rattle.nb_base.specs.declared.value.Key.{Key}
use Rattle.nb_store.specs.Kept.{IsIndex}

-- ---- the saga with an id

both_true : (a b : Bool) → (a && b) ≡ true → (a ≡ true) × (b ≡ true)
both_true true b e = (refl, e)
both_true false b e = absurd (true≢false (sym e))

inside : {A : Type 0} (x y : A) → Some x ≡ Some y → x ≡ y
inside x y e = cc

parts : (a b : Bool) → T (a && b) → T a × T b
parts true b h = (tt, h)
parts false b h = absurd h

module _ {K V : Type 0} {R : K → K → Ordering} (x : IsExact R) where
  find_below : (q : K) (es : List (K × V)) → T (below_all R q es) → find R q es ≡ None
  find_below q [] h = refl
  find_below q (e ∷ es) h =
      let p = parts (is_lt (R q e.0)) (below_all R q es) h in
      ap (λ r. cond (is_eq r) (Some e.1) (find R q es)) (less (R q e.0) p.0) ∙ find_below q es p.1
    where
      less : (o : Ordering) → T (is_lt o) → o ≡ Less
      less o h = elim o as (λ r. T (is_lt r) → r ≡ Less) [ Less ↦ λ _. refl | Equal ↦ λ h. absurd h | Greater ↦ λ h. absurd h ] h

  find_first : (e : K × V) (es : List (K × V)) → find R e.0 (e ∷ es) ≡ Some e.1
  find_first e es = ap (λ b. cond b (Some e.1) (find R e.0 es)) (itself x e.0)

  -- what is found in the rest is found in the whole
  find_later : (e : K × V) (es : List (K × V)) (q : K) (v : V) → T (is_sorted R (e ∷ es)) → find R q es ≡ Some v → find R q (e ∷ es) ≡ Some v
  find_later e es q v h is =
      (elim (eq_by_cmp R q e.0) as (λ b. eq_by_cmp R q e.0 ≡ b → cond b (Some e.1) (find R q es) ≡ Some v) [
        | true ↦ λ tied. absurd (clash (sym is ∙ ap (λ k. find R k es) (ties x q e.0 tied) ∙ find_below e.0 es (parts _ _ h).0))
        | false ↦ λ other. is
      ]) refl
    where
      clash : Some v ≡ None → ⊥
      clash e = cc

abbrev is_it : List ℕ → List ℕ → SagaKey × SagaRow → Bool
is_it saga id e = bytes_eq e.0.saga saga && bytes_eq e.1.id id

-- what with_id finds is at its place
with_id-found : (saga id : List ℕ) (es : List (SagaKey × SagaRow)) (row : SagaRow) → T (is_sorted saga_key_cmp es) → with_id saga id es ≡ Some row
    → (place : SagaKey) × (find saga_key_cmp place es ≡ Some row) × (place.saga ≡ saga) × (row.id ≡ id)
with_id-found saga id [] row h is = absurd cc
with_id-found saga id (e ∷ es) row h is =
    (elim (is_it saga id e) as (λ b. is_it saga id e ≡ b → cond b (Some e.1) (with_id saga id es) ≡ Some row → (place : SagaKey) × (find saga_key_cmp place (e ∷ es) ≡ Some row) × (place.saga ≡ saga) × (row.id ≡ id)) [
      | true ↦ λ it is.
          let b = both_true (bytes_eq e.0.saga saga) (bytes_eq e.1.id id) it in
          let same = inside e.1 row is in
          (e.0, find_first places e es ∙ is, (bytes_decides e.0.saga saga).0 b.0, ap (λ (r : SagaRow). r.id) (sym same) ∙ (bytes_decides e.1.id id).0 b.1)
      | false ↦ λ it is.
          let more = with_id-found saga id es row (parts (below_all saga_key_cmp e.0 es) (is_sorted saga_key_cmp es) h).1 is in
          (more.0, find_later places e es more.0 row h more.1, more.2, more.3)
    ]) refl is

-- and it finds what is there
with_id-none : (saga id : List ℕ) (es : List (SagaKey × SagaRow)) (place : SagaKey) (row : SagaRow) → with_id saga id es ≡ None → find saga_key_cmp place es ≡ Some row → place.saga ≡ saga → row.id ≢ id
with_id-none saga id [] place row none is here same = absurd cc
with_id-none saga id (e ∷ es) place row none is here same =
    (elim (is_it saga id e) as (λ b. is_it saga id e ≡ b → cond b (Some e.1) (with_id saga id es) ≡ None → ⊥) [
      | true ↦ λ it none. absurd cc
      | false ↦ λ it none.
          (elim (eq_by_cmp saga_key_cmp place e.0) as (λ b. eq_by_cmp saga_key_cmp place e.0 ≡ b → cond b (Some e.1) (find saga_key_cmp place es) ≡ Some row → ⊥) [
            | true ↦ λ tied is.
                let at : place ≡ e.0 = ties places place e.0 tied in
                let this = inside e.1 row is in
                let first : bytes_eq e.0.saga saga ≡ true = (bytes_decides e.0.saga saga).1 (ap (λ (p : SagaKey). p.saga) (sym at) ∙ here) in
                let second : bytes_eq e.1.id id ≡ true = (bytes_decides e.1.id id).1 (ap (λ (r : SagaRow). r.id) this ∙ same) in
                true≢false (sym (ap (λ b. b && bytes_eq e.1.id id) first ∙ second) ∙ it)
            | false ↦ λ other is. with_id-none saga id es place row none is here same
          ]) refl is
    ]) refl none

-- by the index
pub with_id-place : (saga id : List ℕ) (sagas : BySaga SagaRow) (ids : ByName SagaKey) (place : SagaKey) → IsIndex sagas ids → map.get ids id ≡ Some place → place.saga ≡ saga → with_id saga id (map.entries sagas) ≡ map.get sagas place
with_id-place saga id sagas ids place index at here =
    let o = index.only id place at in
    go (with_id saga id (map.entries sagas)) refl ∙ sym o.1
  where
    go : (r : Option SagaRow) → with_id saga id (map.entries sagas) ≡ r → with_id saga id (map.entries sagas) ≡ Some (index.only id place at).0
    go None e = absurd (with_id-none saga id (map.entries sagas) place (index.only id place at).0 e (sym (map.get-entries sagas place) ∙ (index.only id place at).1) here (index.only id place at).2)
    go (Some row) e =
        let f = with_id-found saga id (map.entries sagas) row (map.entries_sorted sagas) e in
        let g : map.get sagas f.0 ≡ Some row = map.get-entries sagas f.0 ∙ f.1 in
        let same : f.0 ≡ place = inside f.0 place (sym (index.found f.0 row g) ∙ ap (map.get ids) f.3 ∙ at) in
        e ∙ sym g ∙ ap (map.get sagas) same ∙ (index.only id place at).1

pub with_id-other : (saga id : List ℕ) (sagas : BySaga SagaRow) (ids : ByName SagaKey) (place : SagaKey) → IsIndex sagas ids → map.get ids id ≡ Some place → place.saga ≢ saga → with_id saga id (map.entries sagas) ≡ None
with_id-other saga id sagas ids place index at other = go (with_id saga id (map.entries sagas)) refl
  where
    go : (r : Option SagaRow) → with_id saga id (map.entries sagas) ≡ r → with_id saga id (map.entries sagas) ≡ None
    go None e = e
    go (Some row) e =
        let f = with_id-found saga id (map.entries sagas) row (map.entries_sorted sagas) e in
        let g : map.get sagas f.0 ≡ Some row = map.get-entries sagas f.0 ∙ f.1 in
        let same : f.0 ≡ place = inside f.0 place (sym (index.found f.0 row g) ∙ ap (map.get ids) f.3 ∙ at) in
        absurd (other (ap (λ (p : SagaKey). p.saga) (sym same) ∙ f.2))

pub with_id-absent : (saga id : List ℕ) (sagas : BySaga SagaRow) (ids : ByName SagaKey) → IsIndex sagas ids → map.get ids id ≡ None → with_id saga id (map.entries sagas) ≡ None
with_id-absent saga id sagas ids index at = go (with_id saga id (map.entries sagas)) refl
  where
    clash : {A : Type 0} (x : A) → Some x ≡ None → ⊥
    clash x e = cc

    go : (r : Option SagaRow) → with_id saga id (map.entries sagas) ≡ r → with_id saga id (map.entries sagas) ≡ None
    go None e = e
    go (Some row) e =
        let f = with_id-found saga id (map.entries sagas) row (map.entries_sorted sagas) e in
        let g : map.get sagas f.0 ≡ Some row = map.get-entries sagas f.0 ∙ f.1 in
        absurd (clash f.0 (sym (index.found f.0 row g) ∙ ap (map.get ids) f.3 ∙ at))

-- ---- one key after the other

pub seen-push : (t : Stored) (ks : List Key) (k : Key) → seen t (ks ++ k ∷ []) ≡ seen t ks ++ record { key = k; seen = shown t k } ∷ []
seen-push t [] k = refl
seen-push t (j ∷ ks) k = ap (λ rs. record { key = j; seen = shown t j } ∷ rs) (seen-push t ks k)

pub seen-next : (t : Stored) (keys : List Key) (i : ℕ) (k : Key) (r : Read) (reads : List Read) → reads ≡ seen t (take i keys) → slice_get keys i ≡ Some k → r ≡ record { key = k; seen = shown t k }
    → reads ++ r ∷ [] ≡ seen t (take (i + 1) keys)
seen-next t keys i k r reads so_far at is = rw (take_next keys i k at, seen-push t (take i keys) k, so_far, is) refl

pub seen-end : (t : Stored) (keys : List Key) (i : ℕ) (reads : List Read) → reads ≡ seen t (take i keys) → length keys ≤ i → reads ≡ seen t keys
seen-end t keys i reads so_far all = so_far ∙ ap (seen t) (take_all i keys all)

-- ---- a comparison of texts

pub same_from : (a b : List ℕ) (r : Bool) → r ≡ not (bytes_eq a b) → r ≡ false → a ≡ b
same_from a b r is other = (bytes_decides a b).0 (turned (bytes_eq a b) (sym is ∙ other))
  where
    turned : (t : Bool) → not t ≡ false → t ≡ true
    turned true e = refl
    turned false e = absurd (true≢false e)

pub other_from : (a b : List ℕ) → true ≡ not (bytes_eq a b) → a ≢ b
other_from a b e same = true≢false (e ∙ ap not ((bytes_decides a b).1 same))
