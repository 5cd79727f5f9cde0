-- The value of digits, digit by digit.
use Rattle.std.proofs.Common.{◌≡◌, ℕ, suc, ◌+◌, ◌-◌, ◌*◌, ◌≤◌, ◌<◌, false, List, [], ◌∷◌, drop, take, length, get_or, drop-cons, Some, None, ap, sym, ◌∙◌, arith, if◌then◌else◌}
use Rattle.std.proofs.lemmas.Bool.{lt-leb}
use Rattle.nb_script.specs.Lexing.{value_after, most, number_of, unescaped, within_quotes}

-- digits only add
grows : (n : ℕ) (ds : List ℕ) → n ≤ value_after n ds
grows n [] = omega arith
grows n (d ∷ ds) = let more : n * 10 + (d - 48) ≤ value_after (n * 10 + (d - 48)) ds = grows (n * 10 + (d - 48)) ds in omega arith

-- a value above the greatest number
pub too_great : (ds : List ℕ) → 9223372036854775807 < value_after 0 ds → None ≡ number_of ds
too_great ds lt = sym (ap (λ b. if b then Some (value_after 0 ds) else None) (lt-leb (value_after 0 ds) most lt))

-- the next digit
pub next_digit : (ds : List ℕ) (i n : ℕ) → i < length ds → value_after n (drop i ds) ≡ value_after (n * 10 + (get_or ds i 0 - 48)) (drop (i + 1) ds)
next_digit ds i n lt = ap (value_after n) (drop-cons ds i 0 lt ∙ ap (λ j. get_or ds i 0 ∷ drop j ds) (let e : suc i ≡ i + 1 = omega arith in e))

pub at_least : (ds : List ℕ) (n : ℕ) (rest : List ℕ) → value_after n rest ≡ value_after 0 ds → n ≤ value_after 0 ds
at_least ds n rest e = let le : n ≤ value_after n rest = grows n rest in omega arith

-- with one more digit it is ten times as great at least
pub at_least_ten : (ds : List ℕ) (i n : ℕ) → i < length ds → value_after n (drop i ds) ≡ value_after 0 ds → n * 10 ≤ value_after 0 ds
at_least_ten ds i n lt e =
    let more : n * 10 + (get_or ds i 0 - 48) ≤ value_after (n * 10 + (get_or ds i 0 - 48)) (drop (i + 1) ds) = grows (n * 10 + (get_or ds i 0 - 48)) (drop (i + 1) ds) in
    let same : value_after n (drop i ds) ≡ value_after (n * 10 + (get_or ds i 0 - 48)) (drop (i + 1) ds) = next_digit ds i n lt in
    omega arith

-- what is too short for quotes has nothing within them
pub no_quotes : (raw : List ℕ) → length raw < 2 → [] ≡ unescaped false (within_quotes raw)
no_quotes raw lt = let none : length raw - 2 ≡ 0 = omega arith in sym (ap (λ n. unescaped false (take n (drop 1 raw))) none)
