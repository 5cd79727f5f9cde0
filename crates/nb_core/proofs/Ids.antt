-- Ids of three parts between slashes: the last two slashes part a text in one way.
use Rattle.std.proofs.Common.{◌≡◌, ◌≢◌, ◌^◌, ◌<◌, ℕ, Bool, true, false, true≢false, refl, sym, ap, ◌∙◌, subst, arith, List, [], ◌∷◌, ◌++◌}
use Rattle.std.specs.Prelude.{◌&&◌, get_or, length}
use Rattle.std.specs.Char.{is_ascii_digit}
use Rattle.std.specs.Fmt.{decimal}
use Rattle.std.specs.List.{list_all}
use Rattle.std.proofs.lemmas.Bool.{lt-ltb}
use Rattle.std.proofs.lemmas.Fmt.{decimal_injective, digits_decimal, first_decimal, decimal_nonempty}
use Rattle.nb_base.specs.Sound.{is_index, IsSagaId}
use Rattle.nb_headers.proofs.Digits.{own}
use Rattle.nb_dispatch.specs.Dispatches.{made_id}

-- no byte is a slash
pub NoSlash : List ℕ → Type 0
NoSlash [] = Unit {0}
NoSlash (b ∷ bs) = (b ≢ 47) × NoSlash bs

has_slash : (ys bs : List ℕ) → NoSlash (ys ++ 47 ∷ bs) → ⊥
unfolding NoSlash
has_slash [] bs f = f.0 refl
has_slash (y ∷ ys) bs f = has_slash ys bs f.1

-- a text is parted by its last slash in one way
pub last_part : (xs ys a b : List ℕ) → NoSlash a → NoSlash b → xs ++ 47 ∷ a ≡ ys ++ 47 ∷ b → (xs ≡ ys) × (a ≡ b)
unfolding NoSlash
last_part [] [] a b f g e = (refl, (let r : a ≡ b = cc in r))
last_part [] (y ∷ ys) a b f g e = let r : a ≡ ys ++ 47 ∷ b = cc in absurd (has_slash ys b (subst NoSlash r f))
last_part (x ∷ xs) [] a b f g e = let r : b ≡ xs ++ 47 ∷ a = (let z = sym e in cc) in absurd (has_slash xs a (subst NoSlash r g))
last_part (x ∷ xs) (y ∷ ys) a b f g e =
    let one : x ≡ y = cc in
    let more : xs ++ 47 ∷ a ≡ ys ++ 47 ∷ b = cc in
    let r = last_part xs ys a b f g more in
    ((λ i. one i ∷ r.0 i), r.1)

digit_no_slash : (b : ℕ) → is_ascii_digit b ≡ true → b ≢ 47
digit_no_slash b h e = true≢false (sym h ∙ ap is_ascii_digit e)

both : (a b : Bool) → (a && b) ≡ true → (a ≡ true) × (b ≡ true)
both true b e = (refl, e)
both false b e = absurd (true≢false (sym e))

digits_no_slash : (ds : List ℕ) → list_all is_ascii_digit ds ≡ true → NoSlash ds
unfolding NoSlash
digits_no_slash [] h = tt
digits_no_slash (d ∷ ds) h = let p = both _ _ h in (digit_no_slash d p.0, digits_no_slash ds p.1)

decimal_digits : (n : ℕ) → n < 2 ^ 64 → list_all is_ascii_digit (decimal n) ≡ true
decimal_digits n h = digits_decimal own n h

decimal_no_slash : (n : ℕ) → n < 2 ^ 64 → NoSlash (decimal n)
decimal_no_slash n h = digits_no_slash (decimal n) (decimal_digits n h)

index_no_slash : (ds : List ℕ) → is_index ds ≡ true → NoSlash ds
unfolding NoSlash
index_no_slash [] h = absurd (true≢false (sym h))
index_no_slash (d ∷ ds) h = digits_no_slash (d ∷ ds) (both _ _ h).1

decimal_index : (ds : List ℕ) → list_all is_ascii_digit ds ≡ true → 0 < length ds → 48 < get_or ds 0 0 → is_index ds ≡ true
decimal_index [] h some first = absurd (omega arith)
decimal_index (d ∷ ds) h some first = ap (λ b. b && list_all is_ascii_digit (d ∷ ds)) (lt-ltb 48 d first) ∙ h

-- a number from 1 is an index
pub is_index_of : (i : ℕ) → 0 < i → i < 2 ^ 64 → is_index (decimal i) ≡ true
is_index_of i some small = decimal_index (decimal i) (decimal_digits i small) (decimal_nonempty i small) (first_decimal i some small)

-- two ids are of one commit and have one index
pub same_parts : (a b : List ℕ) (m n : ℕ) (i j : List ℕ) → m < 2 ^ 64 → n < 2 ^ 64 → is_index i ≡ true → is_index j ≡ true
    → a ++ 47 ∷ decimal m ++ 47 ∷ i ≡ b ++ 47 ∷ decimal n ++ 47 ∷ j → (a ≡ b) × (m ≡ n) × (i ≡ j)
same_parts a b m n i j small_m small_n index_i index_j e =
    let p = last_part (a ++ 47 ∷ decimal m) (b ++ 47 ∷ decimal n) i j (index_no_slash i index_i) (index_no_slash j index_j) e in
    let q = last_part a b (decimal m) (decimal n) (decimal_no_slash m small_m) (decimal_no_slash n small_n) p.0 in
    (q.0, decimal_injective m n small_m small_n q.1, p.1)

-- what is made by different commits, or has another index, has another id
pub same_made : (a b : List ℕ) (m n i j : ℕ) → m < 2 ^ 64 → n < 2 ^ 64 → 0 < i → 0 < j → i < 2 ^ 64 → j < 2 ^ 64 → made_id a m i ≡ made_id b n j → (a ≡ b) × (m ≡ n) × (i ≡ j)
same_made a b m n i j small_m small_n some_i some_j small_i small_j e =
    let p = same_parts a b m n (decimal i) (decimal j) small_m small_n (is_index_of i some_i small_i) (is_index_of j some_j small_j) e in
    (p.0, p.1, decimal_injective i j small_i small_j p.2)

-- the id of a saga that this commit makes
pub made_is_saga_id : (endpoint : List ℕ) (n i : ℕ) → 0 < n → 0 < i → i < 2 ^ 64 → IsSagaId n (made_id endpoint n i)
made_is_saga_id endpoint n i some_n some_i small = (endpoint, n, decimal i, refl, (omega arith, omega arith), is_index_of i some_i small)

pub later_saga_id : (m n : ℕ) (id : List ℕ) → m < n → IsSagaId m id → IsSagaId n id
later_saga_id m n id l h = let p = h.4.1 in (h.0, h.1, h.2, h.3, (h.4.0, omega arith), h.5)

-- an id that an earlier commit gave isn't one of this commit
pub not_made_before : (endpoint : List ℕ) (m n i : ℕ) (id : List ℕ) → m < n → n < 2 ^ 64 → 0 < i → i < 2 ^ 64 → IsSagaId m id → id ≢ made_id endpoint n i
not_made_before endpoint m n i id l small some_i small_i h same =
    let below = h.4.1 in
    let p = same_parts h.0 endpoint h.1 n h.2 (decimal i) (omega arith) small h.5 (is_index_of i some_i small_i) (sym h.3 ∙ same) in
    let at = p.1 in
    omega arith
