-- The least stale read is the one that is computed, and where none is computed all reads are fresh.
use Rattle.std.proofs.Common.{◌≡◌, ◌⊎◌, ◌≤◌, ℕ, zero, suc, Bool, true, false, true≢false, Some, None, Option, refl, sym, ap, ◌∙◌, inl, inr, ⊎_elim, subst, arith, List, [], ◌∷◌, cond, Ordering, Less, Equal, Greater}
use Rattle.std.specs.Prelude.{slice_get, ◌==◌}
use Rattle.std.specs.Cmp.{Equal-is}
use Rattle.std.specs.Ordering.{is_gt, ordering_reverse}
use Rattle.std.proofs.lemmas.Bool.{eq-eqb}
use Rattle.std.proofs.lemmas.Map.Views.{exact_unsigned_eq}
use Rattle.nb_base.proofs.Maps.{keys, itself}
use Rattle.nb_base.specs.Orders.{key_cmp}
use Rattle.nb_base.specs.Shown.{Stored, shown, version_of, IsFresh, AreFresh}
use Rattle.nb_base.specs.declared.saga_row.Read.{Read}
use Rattle.nb_base.specs.declared.value.Key.{Key}
use Rattle.nb_core.specs.Stale.{IsStale, IsLeastStale, lesser, least_stale}

pub some_is : {A : Type 0} {x y : A} → Some x ≡ Some y → x ≡ y
some_is e = cc

same_order : (k : Key) → key_cmp k k ≡ Equal
same_order k = (Equal-is (key_cmp k k)).0 (itself keys k)

less_than_same : (a b : Key) → a ≡ b → key_cmp a b ≡ Less → ⊥
less_than_same a b same l =
    let z : Less ≡ Equal = sym l ∙ ap (key_cmp a) (sym same) ∙ same_order a in
    cc

pub unique_stale : (t : Stored) (reads : List Read) (r q : Read) → IsLeastStale t reads r → IsLeastStale t reads q → r ≡ q
unique_stale t reads r q a b = go (a.least b.place q b.there b.stale) (b.least a.place r a.there a.stale)
  where
    go : (key_cmp r.key q.key ≡ Less) ⊎ ((r.key ≡ q.key) × (a.place ≤ b.place)) → (key_cmp q.key r.key ≡ Less) ⊎ ((q.key ≡ r.key) × (b.place ≤ a.place)) → r ≡ q
    go (inl x) (inl y) =
        let z : Less ≡ Greater = sym x ∙ keys.total.antisymm r.key q.key ∙ ap ordering_reverse y in
        absurd (cc)
    go (inl x) (inr y) = absurd (less_than_same r.key q.key (sym y.0) x)
    go (inr x) (inl y) = absurd (less_than_same q.key r.key (sym x.0) y)
    go (inr x) (inr y) =
        let l = x.1 in
        let g = y.1 in
        let same : a.place ≡ b.place = omega arith in
        some_is (sym a.there ∙ ap (slice_get reads) same ∙ b.there)

-- what the scan finds
pub Finds : Stored → List Read → Option Read → Type 0
Finds t reads None = AreFresh t reads
Finds t reads (Some r) = IsLeastStale t reads r

module _ (t : Stored) where
  not_stale : (rs : List Read) → AreFresh t rs → (i : ℕ) (o : Read) → slice_get rs i ≡ Some o → IsStale t o → ⊥
  not_stale [] f i o at stale = cc
  not_stale (r ∷ rs) f zero o at stale = let is : r ≡ o = some_is at in stale (subst (IsFresh t) is f.0)
  not_stale (r ∷ rs) f (suc i) o at stale = not_stale rs f.1 i o at stale

  module _ (r : Read) (rs : List Read) where
    fresh_first : IsFresh t r → (o : Option Read) → Finds t rs o → Finds t (r ∷ rs) o
    unfolding Finds
    fresh_first f None h = (f, h)
    fresh_first f (Some q) h = record {
      place = suc h.place;
      there = h.there;
      stale = h.stale;
      least = least;
    }
      where
        least : (i : ℕ) (other : Read) → slice_get (r ∷ rs) i ≡ Some other → IsStale t other → (key_cmp q.key other.key ≡ Less) ⊎ ((q.key ≡ other.key) × (suc h.place ≤ i))
        least zero other at stale = let is : r ≡ other = some_is at in absurd (stale (subst (IsFresh t) is f))
        least (suc i) other at stale = ⊎_elim
            (λ (l : key_cmp q.key other.key ≡ Less). inl l)
            (λ (s : (q.key ≡ other.key) × (h.place ≤ i)). let p = s.1 in inr (s.0, omega arith))
            (h.least i other at stale)

    -- the first is stale, and not greater than the least of the rest
    first_least : IsStale t r → ((i : ℕ) (other : Read) → slice_get rs i ≡ Some other → IsStale t other → (key_cmp r.key other.key ≡ Less) ⊎ (r.key ≡ other.key)) → IsLeastStale t (r ∷ rs) r
    first_least s rest = record { place = zero; there = refl; stale = s; least = least }
      where
        least : (i : ℕ) (other : Read) → slice_get (r ∷ rs) i ≡ Some other → IsStale t other → (key_cmp r.key other.key ≡ Less) ⊎ ((r.key ≡ other.key) × (zero ≤ i))
        least zero other at stale = let is : r ≡ other = some_is at in inr (ap (λ (x : Read). x.key) is, omega arith)
        least (suc i) other at stale = ⊎_elim
            (λ (l : key_cmp r.key other.key ≡ Less). inl l)
            (λ (e : r.key ≡ other.key). inr (e, omega arith))
            (rest i other at stale)

    stale_first : IsStale t r → (o : Option Read) → Finds t rs o → Finds t (r ∷ rs) (Some (lesser r o))
    unfolding Finds
    stale_first s None h = first_least s (λ i other at stale. absurd (not_stale rs h i other at stale))
    stale_first s (Some q) h = go (key_cmp r.key q.key) refl
      where
        later : key_cmp q.key r.key ≡ Less → (i : ℕ) (other : Read) → slice_get (r ∷ rs) i ≡ Some other → IsStale t other → (key_cmp q.key other.key ≡ Less) ⊎ ((q.key ≡ other.key) × (suc h.place ≤ i))
        later l zero other at stale = let is : r ≡ other = some_is at in inl (ap (λ (x : Read). key_cmp q.key x.key) (sym is) ∙ l)
        later l (suc i) other at stale = ⊎_elim
            (λ (m : key_cmp q.key other.key ≡ Less). inl m)
            (λ (e : (q.key ≡ other.key) × (h.place ≤ i)). let p = e.1 in inr (e.0, omega arith))
            (h.least i other at stale)

        through : key_cmp r.key q.key ≡ Less → (i : ℕ) (other : Read) → slice_get rs i ≡ Some other → IsStale t other → (key_cmp r.key other.key ≡ Less) ⊎ (r.key ≡ other.key)
        through l i other at stale = ⊎_elim
            (λ (m : key_cmp q.key other.key ≡ Less). inl (keys.total.trans r.key q.key other.key l m))
            (λ (e : (q.key ≡ other.key) × (h.place ≤ i)). inl (ap (key_cmp r.key) (sym e.0) ∙ l))
            (h.least i other at stale)

        beside : r.key ≡ q.key → (i : ℕ) (other : Read) → slice_get rs i ≡ Some other → IsStale t other → (key_cmp r.key other.key ≡ Less) ⊎ (r.key ≡ other.key)
        beside same i other at stale = ⊎_elim
            (λ (m : key_cmp q.key other.key ≡ Less). inl (ap (λ k. key_cmp k other.key) same ∙ m))
            (λ (e : (q.key ≡ other.key) × (h.place ≤ i)). inr (same ∙ e.0))
            (h.least i other at stale)

        go : (o : Ordering) → key_cmp r.key q.key ≡ o → IsLeastStale t (r ∷ rs) (cond (is_gt o) q r)
        go Less e = first_least s (through e)
        go Equal e = first_least s (beside (keys.same r.key q.key e))
        go Greater e = record {
          place = suc h.place;
          there = h.there;
          stale = h.stale;
          least = later (keys.total.antisymm q.key r.key ∙ ap ordering_reverse e);
        }

  pub finds : (rs : List Read) → Finds t rs (least_stale t rs)
  unfolding Finds
  finds [] = tt
  finds (r ∷ rs) = go (finds rs) (version_of r.seen == version_of (shown t r.key)) refl
    where
      go : Finds t rs (least_stale t rs) → (b : Bool) → (version_of r.seen == version_of (shown t r.key)) ≡ b → Finds t (r ∷ rs) (cond b (least_stale t rs) (Some (lesser r (least_stale t rs))))
      go h true e = fresh_first r rs (exact_unsigned_eq _ _ e) (least_stale t rs) h
      go h false e = stale_first r rs (λ same. true≢false (sym (eq-eqb _ _ same) ∙ e)) (least_stale t rs) h

  pub least_stale_is : (rs : List Read) (r : Read) → IsLeastStale t rs r → least_stale t rs ≡ Some r
  unfolding Finds
  least_stale_is rs r l = go (least_stale t rs) (finds rs)
    where
      go : (o : Option Read) → Finds t rs o → o ≡ Some r
      go None h = absurd (not_stale rs h l.place r l.there l.stale)
      go (Some q) h = ap Some (unique_stale t rs q r h l)

  pub fresh_is : (rs : List Read) → AreFresh t rs → least_stale t rs ≡ None
  unfolding Finds
  fresh_is rs f = go (least_stale t rs) (finds rs)
    where
      go : (o : Option Read) → Finds t rs o → o ≡ None
      go None h = refl
      go (Some q) h = absurd (not_stale rs f h.place q h.there h.stale)

  pub is_least_stale : (rs : List Read) (r : Read) → least_stale t rs ≡ Some r → IsLeastStale t rs r
  unfolding Finds
  is_least_stale rs r e = subst (Finds t rs) e (finds rs)

  pub is_fresh : (rs : List Read) → least_stale t rs ≡ None → AreFresh t rs
  unfolding Finds
  is_fresh rs e = subst (Finds t rs) e (finds rs)
