-- What a write changes in the bytes of a map, and in the cells of sagas and rows.
use Rattle.std.specs.Prelude.{◌≡◌, ◌≢◌, ℕ, List, [], ◌∷◌, ◌++◌, Bool, true, false, cond, not, ◌==◌, bytes_eq, Option, Some, None, refl}
use Rattle.std.proofs.Common.{◌∙◌, ap, sym, subst, true≢false, Ordering, Less, Equal, Greater}
use Rattle.std.specs.List.{AllByRecursion}
use Rattle.std.specs.Ordering.{eq_by_cmp, is_eq}
use Rattle.std.specs.Cmp.{eq_by_cmp_equiv, Equal-is, tied_itself, alike_right}
use Rattle.std.specs.Cmp.Lexicographic.{bytes_decides}
use Rattle.std.specs.FinMap as finite
use Rattle.std.specs.FinMap.{FinMap}
use Rattle.std.specs.FinMap.Entries.{by_order, put, find, where_key, is_sorted-where_key, find-where_key}
use Rattle.nb_base.proofs.Maps.{IsExact, names, places, ties}
use Rattle.nb_base.specs.Shown.{Stored}
use Rattle.nb_base.specs.declared.plan.Write.{Write}
use Rattle.nb_base.specs.declared.saga_key.SagaKey.{SagaKey}
use Rattle.nb_base.specs.declared.saga_row.SagaRow.{SagaRow}
use Rattle.nb_cells.specs.Cells.{CellMap, with_change, changed}
use Rattle.nb_envelope.specs.Spelling.{spelled_text, spelled_value, IsText, IsValue}
use Rattle.nb_envelope.specs.Formats.{NoneBegins}
use Rattle.nb_envelope.proofs.FormatLaws.{format_text, none_begins}
use Rattle.nb_envelope.proofs.ValueLaws.{format_value}
use Rattle.nb_saga_store.specs.Spelled.{spelled_place, spelled_saga, spelled_row}
use Rattle.nb_saga_store.specs.Maps.{spelled_at, HaveStored, AreSpelled, Each, IsSagaAt, IsRowAt}
use Rattle.nb_saga_store.specs.Writes.{written_of, with_written, all_written, change_of, changes_of}
use Rattle.nb_saga_store.specs.Written.{IsSpelled}
use Rattle.nb_saga_store.specs.declared.written.Written.{Written}
use Rattle.nb_saga_store.specs.declared.written.Written.TheVariants.{Saga, SagaGone, Row, RowGone}

-- ---- tests

over : {A : Type 0} (a b : Bool) (x y z : A) → a ≡ b → cond b x z ≡ cond a x (cond b y z)
over true true x y z e = refl
over true false x y z e = absurd (true≢false e)
over false true x y z e = absurd (true≢false (sym e))
over false false x y z e = refl

passed : {A : Type 0} (a b : Bool) (x y z : A) → a ≡ b → cond a x z ≡ cond a x (cond b y z)
passed true b x y z e = refl
passed false true x y z e = absurd (true≢false (sym e))
passed false false x y z e = refl

swapped : {A : Type 0} (a b : Bool) (x y z : A) → (a ≡ true → b ≡ true → ⊥) → cond b y (cond a x z) ≡ cond a x (cond b y z)
swapped true true x y z never = absurd (never refl refl)
swapped true false x y z never = refl
swapped false true x y z never = refl
swapped false false x y z never = refl

abbrev none : Option (List ℕ)
none = None

same : (q k : List ℕ) → bytes_eq q k ≡ true → q ≡ k
same q k e = (bytes_decides q k).0 e

turned : {A : Type 0} (b : Bool) (y z : A) → cond (not b) y z ≡ cond b z y
turned true y z = refl
turned false y z = refl

symmetric : {K : Type 0} {R : K → K → Ordering} → IsExact R → (q k : K) → eq_by_cmp R q k ≡ eq_by_cmp R k q
symmetric x q k = (eq_by_cmp_equiv x.total).symm q k

-- ---- one map

module _ {K V : Type 0} {R : K → K → Ordering} (x : IsExact R) where
  -- no other key is spelled as this one
  abbrev pub IsAlone : (K → List ℕ) → K → List (K × V) → Type 0
  IsAlone key k es = AllByRecursion (λ e. key e.0 ≡ key k → e.0 ≡ k) es

  module _ (key : K → List ℕ) (bytes : V → List ℕ) where
    both_never : (q : List ℕ) (k j : K) → (key j ≡ key k → j ≡ k) → R k j ≢ Equal → bytes_eq q (key k) ≡ true → bytes_eq q (key j) ≡ true → ⊥
    both_never q k j alone other a b = other (ap (R k) (alone (sym (same q (key j) b) ∙ same q (key k) a)) ∙ tied_itself x.total k)

    put-spelled : (k : K) (v : V) (es : List (K × V)) → IsAlone key k es → (q : List ℕ) → spelled_at key bytes (put R k v es) q ≡ cond (bytes_eq q (key k)) (Some (bytes v)) (spelled_at key bytes es q)
    put-spelled k v [] alone q = refl
    put-spelled k v (e ∷ es) alone q =
        (elim (R k e.0) as (λ r. R k e.0 ≡ r → spelled_at key bytes (by_order r ((k, v) ∷ e ∷ es) ((e.0, v) ∷ es) (e ∷ put R k v es)) q ≡ cond (bytes_eq q (key k)) (Some (bytes v)) (spelled_at key bytes (e ∷ es) q)) [
          | Less ↦ λ is. refl
          | Equal ↦ λ is. over (bytes_eq q (key k)) (bytes_eq q (key e.0)) _ _ _ (ap (λ j. bytes_eq q (key j)) (x.same k e.0 is))
          | Greater ↦ λ is.
              ap (λ o. cond (bytes_eq q (key e.0)) (Some (bytes e.1)) o) (put-spelled k v es alone.1 q)
              ∙ swapped (bytes_eq q (key k)) (bytes_eq q (key e.0)) _ _ _ (both_never q k e.0 alone.0 (λ tied. let d : Equal ≡ Greater = sym tied ∙ is in cc))
        ]) refl

    without-spelled : (k : K) (es : List (K × V)) → IsAlone key k es → (q : List ℕ)
        → spelled_at key bytes (where_key R (λ j. not (eq_by_cmp R k j)) es) q ≡ cond (bytes_eq q (key k)) None (spelled_at key bytes es q)
    without-spelled k [] alone q = elim (bytes_eq q (key k)) as (λ b. none ≡ cond b none none) [ true ↦ refl | false ↦ refl ]
    without-spelled k (e ∷ es) alone q =
        (elim (eq_by_cmp R k e.0) as (λ t. eq_by_cmp R k e.0 ≡ t
        → spelled_at key bytes (cond (not t) (e ∷ where_key R (λ j. not (eq_by_cmp R k j)) es) (where_key R (λ j. not (eq_by_cmp R k j)) es)) q ≡ cond (bytes_eq q (key k)) None (spelled_at key bytes (e ∷ es) q)) [
          | true ↦ λ is. without-spelled k es alone.1 q ∙ passed (bytes_eq q (key k)) (bytes_eq q (key e.0)) _ _ _ (ap (λ j. bytes_eq q (key j)) (ties x k e.0 is))
          | false ↦ λ is.
              ap (λ o. cond (bytes_eq q (key e.0)) (Some (bytes e.1)) o) (without-spelled k es alone.1 q)
              ∙ swapped (bytes_eq q (key k)) (bytes_eq q (key e.0)) _ _ _ (both_never q k e.0 alone.0 (λ tied. true≢false (sym ((Equal-is (R k e.0)).1 tied) ∙ is)))
        ]) refl

  -- what is left once a key is taken out
  pub entries-remove : (m : FinMap R V) (k : K) → finite.entries (finite.remove m k) ≡ where_key R (λ j. not (eq_by_cmp R k j)) (finite.entries m)
  entries-remove m k =
      let p = λ (j : K). not (eq_by_cmp R k j) in
      let left = where_key R p (finite.entries m) in
      let sorted = is_sorted-where_key R p (finite.entries m) (finite.entries_sorted m) in
      ap finite.entries (finite.same_map x.total x.same (finite.remove m k) (finite.from_sorted left) (λ q.
      finite.get-remove x.total m k q
      ∙ ap (λ b. cond b None (finite.get m q)) (symmetric x q k) ∙ sym (turned (eq_by_cmp R k q) (finite.get m q) None)
      ∙ ap (λ o. cond (p q) o None) (finite.get-entries m q)
      ∙ sym (find-where_key R p q (λ j tied. ap (λ r. not (is_eq r)) (sym (alike_right x.total q j k tied))) (finite.entries m))
      ∙ sym (finite.get-from_sorted R left q sorted)))
      ∙ finite.entries-from_sorted R left sorted

  module _ (P : K → V → Type 0) where
    each-put : (k : K) (v : V) (es : List (K × V)) → Each P es → P k v → Each P (put R k v es)
    each-put k v [] all one = (one, tt)
    each-put k v (e ∷ es) all one =
        (elim (R k e.0) as (λ r. R k e.0 ≡ r → Each P (by_order r ((k, v) ∷ e ∷ es) ((e.0, v) ∷ es) (e ∷ put R k v es))) [
          | Less ↦ λ is. (one, all)
          | Equal ↦ λ is. (subst (λ j. P j v) (x.same k e.0 is) one, all.1)
          | Greater ↦ λ is. (all.0, each-put k v es all.1 one)
        ]) refl

    each-without : (p : K → Bool) (es : List (K × V)) → Each P es → Each P (where_key R p es)
    each-without p [] all = tt
    each-without p (e ∷ es) all = elim (p e.0) as (λ b. Each P (cond b (e ∷ where_key R p es) (where_key R p es))) [ true ↦ (all.0, each-without p es all.1) | false ↦ each-without p es all.1 ]

    pub each-insert : (m : FinMap R V) (k : K) (v : V) → Each P (finite.entries m) → P k v → Each P (finite.entries (finite.insert m k v))
    each-insert m k v all one = subst (Each P) (sym (finite.entries-insert x.total m k v)) (each-put k v (finite.entries m) all one)

    pub each-remove : (m : FinMap R V) (k : K) → Each P (finite.entries m) → Each P (finite.entries (finite.remove m k))
    each-remove m k all = subst (Each P) (sym (entries-remove m k)) (each-without (λ j. not (eq_by_cmp R k j)) (finite.entries m) all)

    found-each : (es : List (K × V)) (k : K) (v : V) → Each P es → find R k es ≡ Some v → P k v
    found-each [] k v all e = absurd cc
    found-each (e ∷ es) k v all is =
        (elim (eq_by_cmp R k e.0) as (λ b. eq_by_cmp R k e.0 ≡ b → cond b (Some e.1) (find R k es) ≡ Some v → P k v) [
          | true ↦ λ tied is. subst (λ j. P j v) (sym (ties x k e.0 tied)) (subst (P e.0) (inside e.1 v is) all.0)
          | false ↦ λ other is. found-each es k v all.1 is
        ]) refl is
      where
        inside : (a b : V) → Some a ≡ Some b → a ≡ b
        inside a b e = cc

    -- what holds of each entry holds of what stands at a key
    pub each-get : (m : FinMap R V) (k : K) (v : V) → Each P (finite.entries m) → finite.get m k ≡ Some v → P k v
    each-get m k v all is = found-each (finite.entries m) k v all (sym (finite.get-entries m k) ∙ is)

  module _ (key : K → List ℕ) (bytes : V → List ℕ) where
    pub spelled-insert : (m : FinMap R V) (k : K) (v : V) → IsAlone key k (finite.entries m) → (q : List ℕ)
        → spelled_at key bytes (finite.entries (finite.insert m k v)) q ≡ cond (bytes_eq q (key k)) (Some (bytes v)) (spelled_at key bytes (finite.entries m) q)
    spelled-insert m k v alone q = ap (λ es. spelled_at key bytes es q) (finite.entries-insert x.total m k v) ∙ put-spelled key bytes k v (finite.entries m) alone q

    pub spelled-remove : (m : FinMap R V) (k : K) → IsAlone key k (finite.entries m) → (q : List ℕ)
        → spelled_at key bytes (finite.entries (finite.remove m k)) q ≡ cond (bytes_eq q (key k)) None (spelled_at key bytes (finite.entries m) q)
    spelled-remove m k alone q = ap (λ es. spelled_at key bytes es q) (entries-remove m k) ∙ without-spelled key bytes k (finite.entries m) alone q

-- ---- sagas and rows

NoneBegins-same : {A : Type 0} (Is : A → Type 0) (spelled : A → List ℕ) → NoneBegins Is spelled → (a b : A) → Is a → Is b → spelled a ≡ spelled b → a ≡ b
NoneBegins-same Is spelled begins a b is_a is_b e = (begins a b [] [] is_a is_b (ap (λ (s : List ℕ). s ++ []) e)).0

abbrev IsNamed : SagaKey → Type 0
IsNamed p = IsText p.saga × IsValue p.corr

-- no two places are spelled alike
pub same_place : (p q : SagaKey) → IsNamed p → IsNamed q → spelled_place p ≡ spelled_place q → p ≡ q
same_place p q a b e =
    let first = none_begins IsText spelled_text _ format_text p.saga q.saga (spelled_value p.corr) (spelled_value q.corr) a.0 b.0 e in
    let second = NoneBegins-same IsValue spelled_value (none_begins IsValue spelled_value _ format_value) p.corr q.corr a.1 b.1 first.1 in
    λ i. record { saga = first.0 i; corr = second i }

alone_place : (place : SagaKey) (es : List (SagaKey × SagaRow)) → IsNamed place → Each IsSagaAt es → IsAlone places spelled_place place es
alone_place place [] is all = tt
alone_place place (e ∷ es) is all = (λ spelled. same_place e.0 place (all.0.1.0, all.0.1.1) is spelled, alone_place place es is all.1)

alone_name : {V : Type 0} (name : List ℕ) (es : List (List ℕ × V)) → IsAlone names (λ n. n) name es
alone_name name [] = tt
alone_name name (e ∷ es) = (λ spelled. spelled, alone_name name es)

-- what a write leaves stands in the cells after its change
pub write_one : (m : CellMap) (t : Stored) (w : Written) → AreSpelled t → IsSpelled w → HaveStored m t → HaveStored (with_change m (change_of w)) (with_written t w) × AreSpelled (with_written t w)
write_one m t (Saga place row) are is has = (
  record {
    sagas = λ q. ap (cond (bytes_eq q (spelled_place place)) (Some (spelled_saga row))) (has.sagas q) ∙ sym (spelled-insert places spelled_place spelled_saga t.sagas place row (alone_place place _ (is.1.0, is.1.1) are.sagas) q);
    rows = has.rows;
  },
  record { sagas = each-insert places IsSagaAt t.sagas place row are.sagas is; rows = are.rows },
)
write_one m t (SagaGone place) are is has = (
  record {
    sagas = λ q. ap (cond (bytes_eq q (spelled_place place)) None) (has.sagas q) ∙ sym (spelled-remove places spelled_place spelled_saga t.sagas place (alone_place place _ is are.sagas) q);
    rows = has.rows;
  },
  record { sagas = each-remove places IsSagaAt t.sagas place are.sagas; rows = are.rows },
)
write_one m t (Row name row) are is has = (
  record {
    sagas = has.sagas;
    rows = λ q. ap (cond (bytes_eq q name) (Some (spelled_row row))) (has.rows q) ∙ sym (spelled-insert names (λ n. n) spelled_row t.rows name row (alone_name name _) q);
  },
  record { sagas = are.sagas; rows = each-insert names IsRowAt t.rows name row are.rows is },
)
write_one m t (RowGone name) are is has = (
  record {
    sagas = has.sagas;
    rows = λ q. ap (cond (bytes_eq q name) None) (has.rows q) ∙ sym (spelled-remove names (λ n. n) spelled_row t.rows name (alone_name name _) q);
  },
  record { sagas = are.sagas; rows = each-remove names IsRowAt t.rows name are.rows },
)

-- what the writes of a plan leave stands in the cells after their changes
pub write_all : (endpoint : List ℕ) (n : ℕ) (m : CellMap) (t : Stored) (ws : List Write) → AreSpelled t → AllByRecursion (λ w. IsSpelled (written_of endpoint n w)) ws → HaveStored m t
    → HaveStored (changed (changes_of endpoint n ws) m) (all_written endpoint n t ws) × AreSpelled (all_written endpoint n t ws)
write_all endpoint n m t [] are is has = (has, are)
write_all endpoint n m t (w ∷ ws) are is has =
    let one = write_one m t (written_of endpoint n w) are is.0 has in
    write_all endpoint n (with_change m (change_of (written_of endpoint n w))) (with_written t (written_of endpoint n w)) ws one.1 is.1 one.0

-- and leaves the cells of the other spaces
elsewhere_one : (m : CellMap) (w : Written) (space : ℕ) (key : List ℕ) → (space == 2) ≡ false → (space == 3) ≡ false → with_change m (change_of w) space key ≡ m space key
elsewhere_one m (Saga place row) space key two three = rw two refl
elsewhere_one m (SagaGone place) space key two three = rw two refl
elsewhere_one m (Row name row) space key two three = rw three refl
elsewhere_one m (RowGone name) space key two three = rw three refl

pub elsewhere : (endpoint : List ℕ) (n : ℕ) (m : CellMap) (ws : List Write) (space : ℕ) (key : List ℕ) → (space == 2) ≡ false → (space == 3) ≡ false → changed (changes_of endpoint n ws) m space key ≡ m space key
elsewhere endpoint n m [] space key two three = refl
elsewhere endpoint n m (w ∷ ws) space key two three =
    elsewhere endpoint n (with_change m (change_of (written_of endpoint n w))) ws space key two three ∙ elsewhere_one m (written_of endpoint n w) space key two three

spelled_one : (t : Stored) (w : Written) → AreSpelled t → IsSpelled w → AreSpelled (with_written t w)
spelled_one t (Saga place row) are is = record { sagas = each-insert places IsSagaAt t.sagas place row are.sagas is; rows = are.rows }
spelled_one t (SagaGone place) are is = record { sagas = each-remove places IsSagaAt t.sagas place are.sagas; rows = are.rows }
spelled_one t (Row name row) are is = record { sagas = are.sagas; rows = each-insert names IsRowAt t.rows name row are.rows is }
spelled_one t (RowGone name) are is = record { sagas = are.sagas; rows = each-remove names IsRowAt t.rows name are.rows }

-- what the writes of a plan leave has spellings
pub write_spelled : (endpoint : List ℕ) (n : ℕ) (t : Stored) (ws : List Write) → AreSpelled t → AllByRecursion (λ w. IsSpelled (written_of endpoint n w)) ws → AreSpelled (all_written endpoint n t ws)
write_spelled endpoint n t [] are is = are
write_spelled endpoint n t (w ∷ ws) are is = write_spelled endpoint n (with_written t (written_of endpoint n w)) ws (spelled_one t (written_of endpoint n w) are is.0) is.1
