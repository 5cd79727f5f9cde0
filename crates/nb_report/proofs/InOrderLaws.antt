-- A stable sort by an order puts a list in that order.
use Rattle.std.proofs.Common.{◌≡◌, ◌∙◌, ℕ, zero, suc, ◌<◌, List, [], ◌∷◌, length, Bool, true, false, not, ◌&&◌, cond, refl, sym, ap, subst, arith, true≢false, map, slice_index_or}
use Rattle.std.specs.List.{filter, AllPairs, AllByRecursion}
use Rattle.std.specs.List.Sorted.{IsSortedBy, IsStableBy, ties}
use Rattle.std.specs.Cmp.{IsStrictWeakOrder}
use Rattle.std.proofs.lemmas.List.Sorted.{sorted_far}
use Rattle.nb_report.specs.InOrder.{put_in, in_order}

abbrev head_or : {X : Type 0} → X → List X → X
head_or d [] = d
head_or d (x ∷ xs) = x

abbrev tail_of : {X : Type 0} → List X → List X
tail_of [] = []
tail_of (x ∷ xs) = xs

abbrev is_cons : {X : Type 0} → List X → Bool
is_cons [] = false
is_cons (x ∷ xs) = true

all_weaker : {X : Type 0} (P Q : X → Type 0) → ((x : X) → P x → Q x) → (xs : List X) → AllByRecursion P xs → AllByRecursion Q xs
all_weaker P Q f [] h = tt
all_weaker P Q f (x ∷ xs) h = (f x h.0, all_weaker P Q f xs h.1)

-- what passes the test nowhere is filtered out
filter_none : {X : Type 0} (p : X → Bool) (xs : List X) → AllByRecursion (λ y. p y ≡ false) xs → filter p xs ≡ []
filter_none p [] h = refl
filter_none p (x ∷ xs) h = rw h.0 (filter_none p xs h.1)

-- two items of which one passes the test change places
swapped : {X : Type 0} (s t : Bool) → (s ≡ true → t ≡ true → ⊥) → (x y : X) (zs : List X) → cond t (y ∷ cond s (x ∷ zs) zs) (cond s (x ∷ zs) zs) ≡ cond s (x ∷ cond t (y ∷ zs) zs) (cond t (y ∷ zs) zs)
swapped true true h x y zs = absurd (h refl refl)
swapped true false h x y zs = refl
swapped false true h x y zs = refl
swapped false false h x y zs = refl

-- the same item in front of both is left out
cancelled : {X : Type 0} (t : Bool) (x : X) (ys zs : List X) → cond t (x ∷ ys) ys ≡ cond t (x ∷ zs) zs → ys ≡ zs
cancelled true x ys zs e = ap tail_of e
cancelled false x ys zs e = e

both_so : (s t : Bool) → (not s && not t) ≡ true → (s ≡ false) × (t ≡ false)
both_so true t e = absurd (true≢false (sym e))
both_so false true e = absurd (true≢false (sym e))
both_so false false e = (refl, refl)

module _ {X : Type 0} (lt : X → X → Bool) (o : IsStrictWeakOrder lt) where
  -- no item is below an earlier one
  abbrev Rises : List X → Type 0
  Rises [] = Unit {0}
  Rises (x ∷ xs) = AllByRecursion (λ y. lt y x ≡ false) xs × Rises xs

  all_after : (x : X) (xs : List X) → ((j : ℕ) (d : X) → j < length xs → lt (slice_index_or xs j d) x ≡ false) → AllByRecursion (λ y. lt y x ≡ false) xs
  all_after x [] h = tt
  all_after x (y ∷ ys) h = (h zero y (omega arith), all_after x ys (λ j d within. h (suc j) d (omega (arith, within))))

  rises : (xs : List X) → AllPairs (λ x y. lt y x ≡ false) xs → Rises xs
  rises [] h = tt
  rises (x ∷ xs) h =
      (all_after x xs (λ j d within. h zero (suc j) d (omega arith) (omega (arith, within))), rises xs (λ i j d below within. h (suc i) (suc j) d (omega (arith, below)) (omega (arith, within))))

  -- no item is below itself
  not_below_self : (x : X) → lt x x ≡ false
  not_below_self x = go (lt x x) refl
    where
      go : (b : Bool) → lt x x ≡ b → lt x x ≡ false
      go true e = o.one_way x x e
      go false e = e

  ties_self : (x : X) → ties lt x x ≡ true
  ties_self x = rw (not_below_self x) refl

  -- of an item and one below it at most one ties with a third
  not_both : (x y z : X) → lt y x ≡ true → ties lt z x ≡ true → ties lt z y ≡ true → ⊥
  not_both x y z below a b =
      let to = both_so (lt z x) (lt x z) a in
      let from = both_so (lt z y) (lt y z) b in
      true≢false (sym below ∙ o.chain y z x from.1 to.0)

  -- an item that is below the first of a list in order ties with none of it
  ties_with_none : (x y : X) (ys : List X) → lt x y ≡ true → AllByRecursion (λ z. lt z y ≡ false) ys → AllByRecursion (λ z. ties lt x z ≡ false) ys
  ties_with_none x y ys below = all_weaker (λ z. lt z y ≡ false) (λ z. ties lt x z ≡ false) apart ys
    where
      apart : (z : X) → lt z y ≡ false → ties lt x z ≡ false
      apart z h = go (lt x z) refl
        where
          go : (b : Bool) → lt x z ≡ b → ties lt x z ≡ false
          go true e = rw e refl
          go false e = absurd (true≢false (sym below ∙ o.chain x z y e h))

  -- a list in order is determined by the items that tie with each
  same_order : (xs ys : List X) → Rises xs → Rises ys → ((z : X) → filter (ties lt z) xs ≡ filter (ties lt z) ys) → xs ≡ ys
  same_order [] [] a b same = refl
  same_order [] (y ∷ ys) a b same = absurd (true≢false (sym (ap is_cons (rw (ties_self y) at (same y)))))
  same_order (x ∷ xs) [] a b same = absurd (true≢false (ap is_cons (rw (ties_self x) at (same x))))
  same_order (x ∷ xs) (y ∷ ys) a b same = go (lt x y) refl (lt y x) refl (same_order xs ys a.1 b.1)
    where
      go : (s : Bool) → lt x y ≡ s → (t : Bool) → lt y x ≡ t → (((z : X) → filter (ties lt z) xs ≡ filter (ties lt z) ys) → xs ≡ ys) → x ∷ xs ≡ y ∷ ys
      go true e t f later =
          let none = filter_none (ties lt x) (y ∷ ys) (rw e refl, ties_with_none x y ys e b.0) in
          absurd (true≢false (ap is_cons (rw (ties_self x) at (same x ∙ none))))
      go false e true f later =
          let none = filter_none (ties lt y) (x ∷ xs) (rw f refl, ties_with_none y x xs f a.0) in
          absurd (true≢false (ap is_cons (rw (ties_self y) at (sym (same y) ∙ none))))
      go false e false f later =
          let tied : ties lt x y ≡ true = rw (e, f) refl in
          let head : x ≡ y = ap (head_or x) (rw (ties_self x, tied) at (same x)) in
          let rest = λ (z : X). cancelled (ties lt z x) x (filter (ties lt z) xs) (filter (ties lt z) ys)
          (subst (λ v. filter (ties lt z) (x ∷ xs) ≡ filter (ties lt z) (v ∷ ys)) (sym head) (same z)) in
          ap (λ v. v ∷ xs) head ∙ ap (λ l. y ∷ l) (later rest)

  all_put : (P : X → Type 0) (x : X) (ys : List X) → P x → AllByRecursion P ys → AllByRecursion P (put_in lt x ys)
  all_put P x [] one all = (one, tt)
  all_put P x (y ∷ ys) one all = go (lt y x) refl (all_put P x ys one all.1)
    where
      go : (b : Bool) → lt y x ≡ b → AllByRecursion P (put_in lt x ys) → AllByRecursion P (put_in lt x (y ∷ ys))
      go true e rest = rw e (all.0, rest)
      go false e rest = rw e (one, all)

  put_rises : (x : X) (ys : List X) → Rises ys → Rises (put_in lt x ys)
  put_rises x [] h = (tt, tt)
  put_rises x (y ∷ ys) h = go (lt y x) refl (put_rises x ys h.1)
    where
      go : (b : Bool) → lt y x ≡ b → Rises (put_in lt x ys) → Rises (put_in lt x (y ∷ ys))
      go true e rest = rw e (all_put (λ z. lt z y ≡ false) x ys (o.one_way y x e) h.0, rest)
      go false e rest = rw e ((e, all_weaker (λ z. lt z y ≡ false) (λ z. lt z x ≡ false) (λ z k. o.chain z y x k e) ys h.0), h)

  order_rises : (xs : List X) → Rises (in_order lt xs)
  order_rises [] = tt
  order_rises (x ∷ xs) = put_rises x (in_order lt xs) (order_rises xs)

  put_stable : (z x : X) (ys : List X) → filter (ties lt z) (put_in lt x ys) ≡ filter (ties lt z) (x ∷ ys)
  put_stable z x [] = refl
  put_stable z x (y ∷ ys) = go (lt y x) refl (put_stable z x ys)
    where
      go : (b : Bool) → lt y x ≡ b → filter (ties lt z) (put_in lt x ys) ≡ filter (ties lt z) (x ∷ ys) → filter (ties lt z) (put_in lt x (y ∷ ys)) ≡ filter (ties lt z) (x ∷ y ∷ ys)
      go true e rest =
          rw e
          (ap (λ l. cond (ties lt z y) (y ∷ l) l) rest
          ∙ swapped (ties lt z x) (ties lt z y) (not_both x y z e) x y (filter (ties lt z) ys))
      go false e rest = rw e refl

  order_stable : (z : X) (xs : List X) → filter (ties lt z) (in_order lt xs) ≡ filter (ties lt z) xs
  order_stable z [] = refl
  order_stable z (x ∷ xs) = put_stable z x (in_order lt xs) ∙ ap (λ l. cond (ties lt z x) (x ∷ l) l) (order_stable z xs)

  pub order-from_sort : (xs ys : List X) → IsSortedBy lt ys → IsStableBy lt xs ys → ys ≡ in_order lt xs
  order-from_sort xs ys sorted stable =
      same_order ys (in_order lt xs) (rises ys (λ i j d below within. sorted_far lt o ys sorted i j d (omega (arith, below)) within)) (order_rises xs) (λ z. stable z ∙ sym (order_stable z xs))

module _ {X Y : Type 0} (f : X → Y) (lt : Y → Y → Bool) where
  put-map : (x : X) (ys : List X) → map f (put_in (λ a b. lt (f a) (f b)) x ys) ≡ put_in lt (f x) (map f ys)
  put-map x [] = refl
  put-map x (y ∷ ys) = go (lt (f y) (f x)) refl (put-map x ys)
    where
      go : (b : Bool) → lt (f y) (f x) ≡ b → map f (put_in (λ a b. lt (f a) (f b)) x ys) ≡ put_in lt (f x) (map f ys) → map f (put_in (λ a b. lt (f a) (f b)) x (y ∷ ys)) ≡ put_in lt (f x) (map f (y ∷ ys))
      go true e rest = rw e (ap (λ l. f y ∷ l) rest)
      go false e rest = rw e refl

  -- items that show others are in the order of these
  pub order-map : (xs : List X) → map f (in_order (λ a b. lt (f a) (f b)) xs) ≡ in_order lt (map f xs)
  order-map [] = refl
  order-map (x ∷ xs) = put-map x (in_order (λ a b. lt (f a) (f b)) xs) ∙ ap (put_in lt (f x)) (order-map xs)
