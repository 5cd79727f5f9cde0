-- Finite maps at one key and at the others.
use Rattle.std.proofs.Common.{◌≡◌, ◌≢◌, ◌⊎◌, Bool, true, false, true≢false, cond, Some, None, refl, sym, ap, ◌∙◌, inl, inr, subst, Ordering, Less, Equal, Greater}
use Rattle.std.specs.Ordering.{nat_cmp, eq_by_cmp, ordering_then, is_eq, bool_cmp}
use Rattle.std.specs.Cmp.{IsTotalOrder, nat_cmp_total, eq_by_cmp_equiv, Equal-is}
use Rattle.std.specs.Cmp.Lexicographic.{nat_list_cmp_total}
use Rattle.std.specs.FinMap as map
use Rattle.std.specs.FinMap.{FinMap, IsAntisymmetric, nat_cmp-IsAntisymmetric, int_cmp-IsAntisymmetric, slice_cmp-IsAntisymmetric, get-insert, get-remove}
use Rattle.nb_base.specs.Orders.{name_cmp, value_cmp, key_cmp, saga_key_cmp}
use Rattle.nb_base.specs.declared.value.Value.TheVariants as value
use Rattle.nb_base.specs.declared.value.Key.TheVariants.{ByCorr, ById, Row}
use Rattle.nb_base.specs.contracts.value.KeyOrd.TheImpl.Laws as key_laws
use Rattle.nb_base.specs.contracts.saga_key.SagaKeyOrd.TheImpl.Laws as saga_key_laws

-- an order in which only equal keys tie
pub record IsExact {K : Type 0} (R : K → K → Ordering) : Type 0 where
  pub total : IsTotalOrder R
  pub same : IsAntisymmetric R

pub numbers : IsExact nat_cmp
numbers = record { total = nat_cmp_total; same = nat_cmp-IsAntisymmetric }

pub names : IsExact name_cmp
names = record { total = nat_list_cmp_total; same = slice_cmp-IsAntisymmetric nat_cmp-IsAntisymmetric }

not_equal : {A : Type 0} {r : Ordering} → is_eq r ≡ false → r ≡ Equal → A
not_equal other e = absurd (true≢false (sym (ap is_eq e) ∙ other))

-- two orders, one after the other, tie where both do
both_tie : (r o : Ordering) → ordering_then r o ≡ Equal → (r ≡ Equal) × (o ≡ Equal)
both_tie Less o e = not_equal refl e
both_tie Equal o e = (refl, e)
both_tie Greater o e = not_equal refl e

bools_same : IsAntisymmetric bool_cmp
bools_same true true e = refl
bools_same true false e = not_equal refl e
bools_same false true e = not_equal refl e
bools_same false false e = refl

values_same : IsAntisymmetric value_cmp
values_same (value.Int a) (value.Int b) e = ap value.Int (int_cmp-IsAntisymmetric a b e)
values_same (value.Int a) (value.Text b) e = not_equal refl e
values_same (value.Int a) (value.Bool b) e = not_equal refl e
values_same (value.Text a) (value.Int b) e = not_equal refl e
values_same (value.Text a) (value.Text b) e = ap value.Text (names.same a b e)
values_same (value.Text a) (value.Bool b) e = not_equal refl e
values_same (value.Bool a) (value.Int b) e = not_equal refl e
values_same (value.Bool a) (value.Text b) e = not_equal refl e
values_same (value.Bool a) (value.Bool b) e = ap value.Bool (bools_same a b e)

pub places : IsExact saga_key_cmp
places = record {
  total = saga_key_laws.total-law;
  same = λ a b e.
      let t = both_tie (name_cmp a.saga b.saga) (value_cmp a.corr b.corr) e in
      let s = names.same a.saga b.saga t.0 in
      let v = values_same a.corr b.corr t.1 in
      λ i. record { saga = s i; corr = v i };
}

keys_same : IsAntisymmetric key_cmp
keys_same (ByCorr s c) (ByCorr t d) e =
    let b = both_tie (name_cmp s t) (value_cmp c d) e in
    let x = names.same s t b.0 in
    let y = values_same c d b.1 in
    λ i. ByCorr (x i) (y i)
keys_same (ByCorr s c) (ById t d) e = not_equal refl e
keys_same (ByCorr s c) (Row d) e = not_equal refl e
keys_same (ById s c) (ByCorr t d) e = not_equal refl e
keys_same (ById s c) (ById t d) e =
    let b = both_tie (name_cmp s t) (name_cmp c d) e in
    let x = names.same s t b.0 in
    let y = names.same c d b.1 in
    λ i. ById (x i) (y i)
keys_same (ById s c) (Row d) e = not_equal refl e
keys_same (Row c) (ByCorr t d) e = not_equal refl e
keys_same (Row c) (ById t d) e = not_equal refl e
keys_same (Row c) (Row d) e = ap Row (names.same c d e)

pub keys : IsExact key_cmp
keys = record { total = key_laws.total-law; same = keys_same }

module _ {K : Type 0} {R : K → K → Ordering} (x : IsExact R) where
  pub ties : (q k : K) → eq_by_cmp R q k ≡ true → q ≡ k
  ties q k e = x.same q k ((Equal-is (R q k)).0 e)

  pub itself : (k : K) → eq_by_cmp R k k ≡ true
  itself k = (eq_by_cmp_equiv x.total).refl k

  pub same_or_other : (q k : K) → (q ≡ k) ⊎ (q ≢ k)
  same_or_other q k = go (eq_by_cmp R q k) refl
    where
      go : (b : Bool) → eq_by_cmp R q k ≡ b → (q ≡ k) ⊎ (q ≢ k)
      go true e = inl (ties q k e)
      go false e = inr (λ same. let t : true ≡ false = sym (subst (λ z. eq_by_cmp R q z ≡ true) same (itself q)) ∙ e in cc)

  pub apart : (q k : K) → q ≢ k → eq_by_cmp R q k ≡ false
  apart q k ne = go (eq_by_cmp R q k) refl
    where
      go : (b : Bool) → eq_by_cmp R q k ≡ b → eq_by_cmp R q k ≡ false
      go true e = absurd (ne (ties q k e))
      go false e = e

  module _ {V : Type 0} where
    pub at_same : (m : FinMap R V) (k : K) (v : V) → map.get (map.insert m k v) k ≡ Some v
    at_same m k v = get-insert x.total m k v k ∙ ap (λ b. cond b (Some v) (map.get m k)) (itself k)

    pub at_other : (m : FinMap R V) (k : K) (v : V) (q : K) → q ≢ k → map.get (map.insert m k v) q ≡ map.get m q
    at_other m k v q ne = get-insert x.total m k v q ∙ ap (λ b. cond b (Some v) (map.get m q)) (apart q k ne)

    pub gone : (m : FinMap R V) (k : K) → map.get (map.remove m k) k ≡ None
    gone m k = get-remove x.total m k k ∙ ap (λ b. cond b None (map.get m k)) (itself k)

    pub kept : (m : FinMap R V) (k : K) (q : K) → q ≢ k → map.get (map.remove m k) q ≡ map.get m q
    kept m k q ne = get-remove x.total m k q ∙ ap (λ b. cond b None (map.get m q)) (apart q k ne)
