-- The first entry of a list in the order of its numbers that passes a test.
use Rattle.std.proofs.Common.{Ordering, Less, Equal, Greater, ◌≡◌, ◌≢◌, ◌⊎◌, ◌≤◌, ◌<◌, ℕ, Bool, true, false, true≢false, cond, Some, None, Option, refl, sym, ap, ◌∙◌, inl, inr, subst, arith, T, List, [], ◌∷◌}
use Rattle.std.specs.Cmp.{ranked}
use Rattle.std.specs.FinMap.{find, is_sorted}
use Rattle.std.specs.FinMap.Entries.{below_all}
use Rattle.std.specs.List.{list_any}
use Rattle.std.specs.Ordering.{nat_cmp, is_lt, eq_by_cmp}
use Rattle.std.specs.Prelude.{◌&&◌, ◌||◌}
use Rattle.nb_base.proofs.Maps.{numbers, ties, itself}
use Rattle.nb_core.specs.After.{first_where}

pub some_is : {A : Type 0} {x y : A} → Some x ≡ Some y → x ≡ y
some_is e = cc

pub both_true : (a b : Bool) → (a && b) ≡ true → (a ≡ true) × (b ≡ true)
both_true true b e = (refl, e)
both_true false b e = absurd (true≢false (sym e))

pub are_true : (a b : Bool) → a ≡ true → b ≡ true → (a && b) ≡ true
are_true true b p q = q
are_true false b p q = absurd (true≢false (sym p))

is_T : (b : Bool) → b ≡ true → T b
is_T true e = tt
is_T false e = absurd (true≢false (sym e))

of_T : (b : Bool) → T b → b ≡ true
of_T true h = refl
of_T false h = absurd h

parts : (a b : Bool) → T (a && b) → T a × T b
parts true b h = (tt, h)
parts false b h = absurd h

below_less : (r : Ordering) (x y : ℕ) → r ≡ nat_cmp x y → T (is_lt r) → x < y
below_less Less x y e h = ranked x y Less e
below_less Equal x y e h = absurd h
below_less Greater x y e h = absurd h

-- the number of the entry that is found, the first or a later one
module _ {V : Type 0} where
  pub found_where : (x : ℕ × V) (xs : List (ℕ × V)) (n : ℕ) (v : V) → find nat_cmp n (x ∷ xs) ≡ Some v → ((n ≡ x.0) × (v ≡ x.1)) ⊎ ((n ≢ x.0) × (find nat_cmp n xs ≡ Some v))
  found_where x xs n v = go (eq_by_cmp nat_cmp n x.0) refl
    where
      go : (b : Bool) → eq_by_cmp nat_cmp n x.0 ≡ b → cond b (Some x.1) (find nat_cmp n xs) ≡ Some v → ((n ≡ x.0) × (v ≡ x.1)) ⊎ ((n ≢ x.0) × (find nat_cmp n xs ≡ Some v))
      go true e f = inl (ties numbers n x.0 e, sym (some_is f))
      go false e f = inr (λ same. true≢false (sym (subst (λ z. eq_by_cmp nat_cmp n z ≡ true) same (itself numbers n)) ∙ e), f)

  pub found_here : (x : ℕ × V) (xs : List (ℕ × V)) → find nat_cmp x.0 (x ∷ xs) ≡ Some x.1
  found_here x xs = ap (λ b. cond b (Some x.1) (find nat_cmp x.0 xs)) (itself numbers x.0)

  pub found_later : (x : ℕ × V) (xs : List (ℕ × V)) (n : ℕ) → x.0 < n → find nat_cmp n (x ∷ xs) ≡ find nat_cmp n xs
  found_later x xs n lt = go (eq_by_cmp nat_cmp n x.0) refl
    where
      go : (b : Bool) → eq_by_cmp nat_cmp n x.0 ≡ b → cond b (Some x.1) (find nat_cmp n xs) ≡ find nat_cmp n xs
      go true e = let same = ties numbers n x.0 e in absurd (omega arith)
      go false e = refl

  pub found_above : (k : ℕ) (xs : List (ℕ × V)) (n : ℕ) (v : V) → T (below_all nat_cmp k xs) → find nat_cmp n xs ≡ Some v → k < n
  found_above k [] n v h f = absurd (cc)
  found_above k (x ∷ xs) n v h f = go (found_above k xs n v (parts _ _ h).1) (found_where x xs n v f)
    where
      go : (find nat_cmp n xs ≡ Some v → k < n) → ((n ≡ x.0) × (v ≡ x.1)) ⊎ ((n ≢ x.0) × (find nat_cmp n xs ≡ Some v)) → k < n
      go later (inl p) = let lt = below_less (nat_cmp k x.0) k x.0 refl (parts _ _ h).0 in let e = p.0 in omega arith
      go later (inr p) = later p.1

  -- what the scan finds, and that all before it fail
  pub data First (test : ℕ → V → Bool) (es : List (ℕ × V)) : Option ℕ → Type 0 where
    is_there : {n : ℕ} (v : V) → find nat_cmp n es ≡ Some v → test n v ≡ true → ((m : ℕ) (u : V) → find nat_cmp m es ≡ Some u → test m u ≡ true → n ≤ m) → First test es (Some n)
    is_nowhere : ((m : ℕ) (u : V) → find nat_cmp m es ≡ Some u → test m u ≡ true → ⊥) → First test es None

  pub first_is : (test : ℕ → V → Bool) (es : List (ℕ × V)) → T (is_sorted nat_cmp es) → First test es (first_where test es)
  first_is test [] h = is_nowhere (λ m u f t. cc)
  first_is test (x ∷ xs) h = go (first_is test xs (parts _ _ h).1) (test x.0 x.1) refl
    where
      low : T (below_all nat_cmp x.0 xs)
      low = (parts _ _ h).0

      later : test x.0 x.1 ≡ false → (o : Option ℕ) → First test xs o → First test (x ∷ xs) o
      later e (Some n) (is_there v f t least) = is_there v (found_later x xs n (found_above x.0 xs n v low f) ∙ f) t (λ m u g s. at m u s (found_where x xs m u g))
        where
          at : (m : ℕ) (u : V) → test m u ≡ true → ((m ≡ x.0) × (u ≡ x.1)) ⊎ ((m ≢ x.0) × (find nat_cmp m xs ≡ Some u)) → n ≤ m
          at m u s (inl p) = absurd (true≢false (sym s ∙ (λ i. test (p.0 i) (p.1 i)) ∙ e))
          at m u s (inr p) = least m u p.1 s
      later e None (is_nowhere none) = is_nowhere (λ m u g s. at m u s (found_where x xs m u g))
        where
          at : (m : ℕ) (u : V) → test m u ≡ true → ((m ≡ x.0) × (u ≡ x.1)) ⊎ ((m ≢ x.0) × (find nat_cmp m xs ≡ Some u)) → ⊥
          at m u s (inl p) = true≢false (sym s ∙ (λ i. test (p.0 i) (p.1 i)) ∙ e)
          at m u s (inr p) = none m u p.1 s

      go : First test xs (first_where test xs) → (b : Bool) → test x.0 x.1 ≡ b → First test (x ∷ xs) (cond b (Some x.0) (first_where test xs))
      go rest true e = is_there x.1 (found_here x xs) e (λ m u f t. at m u (found_where x xs m u f))
        where
          at : (m : ℕ) (u : V) → ((m ≡ x.0) × (u ≡ x.1)) ⊎ ((m ≢ x.0) × (find nat_cmp m xs ≡ Some u)) → x.0 ≤ m
          at m u (inl p) = let e = p.0 in omega arith
          at m u (inr p) = let lt = found_above x.0 xs m u low p.1 in omega arith
      go rest false e = later e _ rest

  -- a test of any value
  pub any_found : (test : V → Bool) (es : List (ℕ × V)) (n : ℕ) (v : V) → find nat_cmp n es ≡ Some v → test v ≡ true → list_any (λ x. test x.1) es ≡ true
  any_found test [] n v f t = absurd (cc)
  any_found test (x ∷ xs) n v f t = go (λ g. any_found test xs n v g t) (test x.1) refl (found_where x xs n v f)
    where
      go : (find nat_cmp n xs ≡ Some v → list_any (λ x. test x.1) xs ≡ true) → (b : Bool) → test x.1 ≡ b → ((n ≡ x.0) × (v ≡ x.1)) ⊎ ((n ≢ x.0) × (find nat_cmp n xs ≡ Some v)) → (b || list_any (λ x. test x.1) xs) ≡ true
      go later true e r = refl
      go later false e (inl p) = absurd (true≢false (sym t ∙ ap test p.1 ∙ e))
      go later false e (inr p) = later p.1

  pub any_at : (test : V → Bool) (es : List (ℕ × V)) → T (is_sorted nat_cmp es) → list_any (λ x. test x.1) es ≡ true → (n : ℕ) × (v : V) × (find nat_cmp n es ≡ Some v) × (test v ≡ true)
  any_at test [] h e = absurd (true≢false (sym e))
  any_at test (x ∷ xs) h e = go (any_at test xs (parts _ _ h).1) (test x.1) refl e
    where
      go : (list_any (λ x. test x.1) xs ≡ true → (n : ℕ) × (v : V) × (find nat_cmp n xs ≡ Some v) × (test v ≡ true)) → (b : Bool) → test x.1 ≡ b → (b || list_any (λ x. test x.1) xs) ≡ true → (n : ℕ) × (v : V) × (find nat_cmp n (x ∷ xs) ≡ Some v) × (test v ≡ true)
      go later true e f = (x.0, x.1, found_here x xs, e)
      go later false e f =
          let r = later f in
          (r.0, r.1, found_later x xs r.0 (found_above x.0 xs r.0 r.1 (parts _ _ h).0 r.2) ∙ r.2, r.3)
