-- Lists that are made one item at a time.
use Rattle.std.proofs.Common.{◌≡◌, ◌∙◌, ℕ, zero, suc, ◌+◌, ◌<◌, List, [], ◌∷◌, ◌++◌, length, take, get_or, Bool, true, false, Option, Some, None, refl, sym, ap, arith, add-one, append-nil, append_assoc}
use Rattle.std.proofs.Common.{map}
use Rattle.std.proofs.lemmas.List.{map_more}
use Rattle.std.proofs.lemmas.Grind.{flat_map-append}
use Rattle.std.specs.List.{flat_map, filter, filter_map}

next_piece : {X : Type 0} (f : X → List ℕ) (xs : List X) (i : ℕ) (d : X) → i < length xs → flat_map f (take (suc i) xs) ≡ flat_map f (take i xs) ++ f (get_or xs i d)
next_piece f [] i d h = absurd (omega (arith, h))
next_piece f (x ∷ xs) zero d h = append-nil (f x)
next_piece f (x ∷ xs) (suc i) d h = ap (λ l. f x ++ l) (next_piece f xs i d (omega (arith, h))) ∙ sym (append_assoc (f x) (flat_map f (take i xs)) (f (get_or xs i d)))

-- the text of one more item
pub one_more : {X : Type 0} (f : X → List ℕ) (xs : List X) (i : ℕ) (d : X) → i < length xs → flat_map f (take (i + 1) xs) ≡ flat_map f (take i xs) ++ f (get_or xs i d)
one_more f xs i d h = rw add-one (next_piece f xs i d h)

-- the same behind other text, of items that show others
pub shown_more_behind : {X Y : Type 0} (f : Y → List ℕ) (shown : X → Y) (before : List ℕ) (xs : List X) (i : ℕ) (d : X) → i < length xs
    → before ++ flat_map f (map shown (take (i + 1) xs)) ≡ before ++ flat_map f (map shown (take i xs)) ++ f (shown (get_or xs i d))
shown_more_behind f shown before xs i d h =
    ap (λ l. before ++ flat_map f l) (map_more shown xs i d h)
    ∙ ap (λ l. before ++ l) (flat_map-append f (map shown (take i xs)) (shown (get_or xs i d) ∷ []) ∙ ap (λ l. flat_map f (map shown (take i xs)) ++ l) (append-nil (f (shown (get_or xs i d)))))
    ∙ sym (append_assoc before (flat_map f (map shown (take i xs))) (f (shown (get_or xs i d))))

-- the first item, where it passes the test, and the others that do
pub filter_first : {X : Type 0} (p : X → Bool) (x : X) (xs : List X) → filter p (x ∷ xs) ≡ filter p (x ∷ []) ++ filter p xs
filter_first p x xs = go (p x) refl
  where
    go : (b : Bool) → p x ≡ b → filter p (x ∷ xs) ≡ filter p (x ∷ []) ++ filter p xs
    go true e = rw e refl
    go false e = rw e refl

-- what the first item gives, and what the others give
pub filter_map_first : {X Y : Type 0} (h : X → Option Y) (x : X) (xs : List X) → filter_map h (x ∷ xs) ≡ filter_map h (x ∷ []) ++ filter_map h xs
filter_map_first h x xs = go (h x) refl
  where
    go : (o : Option _) → h x ≡ o → filter_map h (x ∷ xs) ≡ filter_map h (x ∷ []) ++ filter_map h xs
    go None e = rw e refl
    go (Some y) e = rw e refl
