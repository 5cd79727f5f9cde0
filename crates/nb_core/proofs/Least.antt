-- The least of the stale reads, one read at a time.
use Rattle.std.proofs.Common.{◌≡◌, ◌≢◌, ◌⊎◌, ◌+◌, ◌<◌, ◌≤◌, ℕ, zero, suc, Bool, true, false, true≢false, Some, None, Option, refl, sym, ap, ◌∙◌, inl, inr, ⊎_elim, subst, arith, List, [], ◌∷◌, length, Ordering, Less, Equal, Greater}
use Rattle.std.specs.Prelude.{slice_get, map, not, nat_eq}
use Rattle.std.specs.Ordering.{ordering_reverse}
use Rattle.std.proofs.lemmas.Option.{slice_get_within}
use Rattle.nb_base.proofs.Maps.{keys}
use Rattle.nb_base.specs.Orders.{key_cmp}
use Rattle.nb_base.specs.Shown.{Stored, shown, seen, version_of, IsFresh, AreFresh}
use Rattle.nb_base.specs.declared.saga_row.Read.{Read}
use Rattle.nb_core.specs.Conflicts.{Judges, IsAt, Best, IsBelow, Conflicts}
use Rattle.nb_core.specs.Stale.{IsLeastStale}
use Rattle.std.proofs.lemmas.Bool.{eq-eqb}
use Rattle.std.proofs.lemmas.Map.Views.{exact_unsigned_eq}
use Rattle.nb_recover.specs.declared.fail.Fail.TheVariants.{Conflict}

some_is : {A : Type 0} {x y : A} → Some x ≡ Some y → x ≡ y
some_is e = cc

-- what is shown at the key of a read
pub seen_at : (t : Stored) (reads : List Read) (i : ℕ) (r n : Read) → slice_get reads i ≡ Some r → slice_get (seen t (map (λ (x : Read). x.key) reads)) i ≡ Some n → n.seen ≡ shown t r.key
seen_at t [] i r n e f = absurd (cc)
seen_at t (x ∷ xs) zero r n e f = let a : x ≡ r = some_is e in ap (λ (y : Read). y.seen) (sym (some_is f)) ∙ ap (λ (y : Read). shown t y.key) a
seen_at t (x ∷ xs) (suc i) r n e f = seen_at t xs i r n e f

module _ (t : Stored) (reads : List Read) where
  -- the next one is fresh
  pub best_fresh : (i : ℕ) (o : Option ℕ) → IsAt t reads i false → Best t reads i o → Best t reads (i + 1) o
  best_fresh i None a b = λ k x lt at. ⊎_elim
      (λ (below : k < i). b k x below at)
      (λ (same : k ≡ i). let is : a.0 ≡ x = some_is (sym a.1 ∙ ap (slice_get reads) (sym same) ∙ at) in subst (IsFresh t) is a.2)
      (split k i lt)
    where
      split : (k i : ℕ) → k < i + 1 → (k < i) ⊎ (k ≡ i)
      split k i lt = grind arith
  best_fresh i (Some j) a b = (
    b.0,
    (let l = b.1 in omega arith),
    b.2,
    b.3,
    λ k x lt at stale. ⊎_elim
        (λ (below : k < i). b.4 k x below at stale)
        (λ (same : k ≡ i). let is : a.0 ≡ x = some_is (sym a.1 ∙ ap (slice_get reads) (sym same) ∙ at) in absurd (stale (subst (IsFresh t) is a.2)))
        (split k i lt),
  )
    where
      split : (k i : ℕ) → k < i + 1 → (k < i) ⊎ (k ≡ i)
      split k i lt = grind arith

  split : (k i : ℕ) → k < i + 1 → (k < i) ⊎ (k ≡ i)
  split k i lt = grind arith

  -- the next one is stale, and the first that is
  pub best_first : (i : ℕ) → IsAt t reads i true → Best t reads i None → Best t reads (i + 1) (Some i)
  best_first i a b = (
    a.0,
    omega arith,
    a.1,
    a.2,
    λ k x lt at stale. ⊎_elim
        (λ (below : k < i). absurd (stale (b k x below at)))
        (λ (same : k ≡ i). let is : a.0 ≡ x = some_is (sym a.1 ∙ ap (slice_get reads) (sym same) ∙ at) in inr (ap (λ (y : Read). y.key) is, omega arith))
        (split k i lt),
  )

  module _ (i j : ℕ) (a : IsAt t reads i true) (b : Best t reads i (Some j)) where
    -- its key is less than the least so far
    pub best_less : key_cmp a.0.key b.0.key ≡ Less → Best t reads (i + 1) (Some i)
    best_less less = (
      a.0,
      omega arith,
      a.1,
      a.2,
      λ k x lt at stale. ⊎_elim
          (λ (below : k < i). inl (⊎_elim
          (λ (l : key_cmp b.0.key x.key ≡ Less). keys.total.trans a.0.key b.0.key x.key less l)
          (λ (s : (b.0.key ≡ x.key) × (j ≤ k)). ap (key_cmp a.0.key) (sym s.0) ∙ less)
          (b.4 k x below at stale)))
          (λ (same : k ≡ i). let is : a.0 ≡ x = some_is (sym a.1 ∙ ap (slice_get reads) (sym same) ∙ at) in inr (ap (λ (y : Read). y.key) is, omega arith))
          (split k i lt),
    )

    -- or it isn't
    pub best_kept : (o : Ordering) → key_cmp a.0.key b.0.key ≡ o → o ≢ Less → Best t reads (i + 1) (Some j)
    best_kept o e not = (
      b.0,
      (let l = b.1 in omega arith),
      b.2,
      b.3,
      λ k x lt at stale. ⊎_elim
          (λ (below : k < i). b.4 k x below at stale)
          (λ (same : k ≡ i).
          let is : a.0 ≡ x = some_is (sym a.1 ∙ ap (slice_get reads) (sym same) ∙ at) in
          let key_is : a.0.key ≡ x.key = ap (λ (y : Read). y.key) is in
          let l = b.1 in
          by_order o e not x key_is k (omega arith))
          (split k i lt),
    )
      where
        by_order : (o : Ordering) → key_cmp a.0.key b.0.key ≡ o → o ≢ Less → (x : Read) → a.0.key ≡ x.key → (k : ℕ) → j ≤ k → (key_cmp b.0.key x.key ≡ Less) ⊎ ((b.0.key ≡ x.key) × (j ≤ k))
        by_order Less e not x key_is k le = absurd (not refl)
        by_order Equal e not x key_is k le = inr (sym (keys.same a.0.key b.0.key e) ∙ key_is, le)
        by_order Greater e not x key_is k le = inl (ap (key_cmp b.0.key) (sym key_is) ∙ keys.total.antisymm b.0.key a.0.key ∙ ap ordering_reverse e)

  -- after all of them
  pub all_fresh : Best t reads (length reads) None → AreFresh t reads
  all_fresh b = go reads (λ k x at. b k x (slice_get_within reads k x at) at)
    where
      go : (rs : List Read) → ((k : ℕ) (x : Read) → slice_get rs k ≡ Some x → IsFresh t x) → AreFresh t rs
      go [] f = tt
      go (r ∷ rs) f = (f zero r refl, go rs (λ k x at. f (suc k) x at))

  pub least_is : (j : ℕ) → (b : Best t reads (length reads) (Some j)) → IsLeastStale t reads b.0
  least_is j b = record { place = j; there = b.2; stale = b.3; least = λ k x at stale. b.4 k x (slice_get_within reads k x at) at stale }

-- ---- as the program finds it

not_same : (b : Bool) → (b ≡ true → ⊥) → b ≡ false
not_same true f = absurd (f refl)
not_same false f = refl

pub judged : (t : Stored) (reads now : List Read) (i : ℕ) (x n : Read) (v w : ℕ) → now ≡ seen t (map (λ (r : Read). r.key) reads) → slice_get reads i ≡ Some x → slice_get now i ≡ Some n
    → v ≡ version_of x.seen → w ≡ version_of n.seen → IsAt t reads i (not (nat_eq v w))
judged t reads now i x n v w now_is at there v_is w_is = (x, at, go (nat_eq v w) refl)
  where
    n_is : n.seen ≡ shown t x.key
    n_is = seen_at t reads i x n at (ap (λ l. slice_get l i) (sym now_is) ∙ there)

    go : (b : Bool) → nat_eq v w ≡ b → Judges t x (not b)
    go true e = sym v_is ∙ exact_unsigned_eq v w e ∙ w_is ∙ ap version_of n_is
    go false e = λ same. true≢false (sym (eq-eqb v w (v_is ∙ same ∙ ap version_of (sym n_is) ∙ sym w_is)) ∙ e)

module _ (t : Stored) (reads : List Read) (i j : ℕ) (x y : Read) (at_i : slice_get reads i ≡ Some x) (at_j : slice_get reads j ≡ Some y) (a : IsAt t reads i true) (b : Best t reads i (Some j)) where
  order_is : (o : Ordering) → o ≡ key_cmp x.key y.key → key_cmp a.0.key b.0.key ≡ o
  order_is o e =
      let p : a.0 ≡ x = some_is (sym a.1 ∙ at_i) in
      let q : b.0 ≡ y = some_is (sym b.2 ∙ at_j) in
      (λ k. key_cmp (p k).key (q k).key) ∙ sym e

  pub at_less : (o : Ordering) → o ≡ key_cmp x.key y.key → o ≡ Less → Best t reads (i + 1) (Some i)
  at_less o e is = best_less t reads i j a b (order_is o e ∙ is)

  pub at_kept : (o : Ordering) → o ≡ key_cmp x.key y.key → o ≢ Less → Best t reads (i + 1) (Some j)
  at_kept o e not = best_kept t reads i j a b o (order_is o e) not

pub none_yet : (t : Stored) (reads : List Read) → Best t reads 0 None
none_yet t reads = λ k o lt at. absurd (omega arith)

pub below_more : (i : ℕ) (o : Option ℕ) → IsBelow i o → IsBelow (i + 1) o
below_more i None h = tt
below_more i (Some j) h = omega arith

-- the conflict that is made of it
pub conflicts : (t : Stored) (reads now : List Read) (j : ℕ) (x n : Read) (v w : ℕ) → now ≡ seen t (map (λ (r : Read). r.key) reads) → slice_get reads j ≡ Some x → slice_get now j ≡ Some n
    → v ≡ version_of x.seen → w ≡ version_of n.seen → Best t reads (length reads) (Some j) → Conflicts t reads (Some (Conflict x.key v w))
conflicts t reads now j x n v w now_is at there v_is w_is b =
    let x_is : b.0 ≡ x = some_is (sym b.2 ∙ at) in
    let n_is : n.seen ≡ shown t x.key = seen_at t reads j x n at (ap (λ l. slice_get l j) (sym now_is) ∙ there) in
    let seen_is : v ≡ version_of b.0.seen = v_is ∙ ap (λ (r : Read). version_of r.seen) (sym x_is) in
    let now_version : w ≡ version_of (shown t b.0.key) = w_is ∙ ap version_of n_is ∙ ap (λ (r : Read). version_of (shown t r.key)) (sym x_is) in
    let key_is : x.key ≡ b.0.key = ap (λ (r : Read). r.key) (sym x_is) in
    (b.0, least_is t reads j b, λ k. Conflict (key_is k) (seen_is k) (now_version k))
