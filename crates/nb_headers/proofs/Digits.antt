-- What `parse` gives for a few digits.
use Rattle.std.specs.Prelude.{◌≡◌, ◌<◌, ◌≤◌, ◌^◌, ℕ, List, length, true, Result, Ok, Err}
use Rattle.std.proofs.Common.{arith, rules}
use Rattle.std.specs.Char.{is_ascii_digit}
use Rattle.std.specs.List.{list_all}
use Rattle.std.specs.Result.{OkIff, result_unwrap_or}
use Rattle.std.specs.Str.Parse.{digits_value, ParsesUnsigned}
use Rattle.std.proofs.lemmas.Str.Parse.{IsNumeralModel, numerals_by_value, digits_value_short, parse_digits}

pub own : IsNumeralModel (λ ds. list_all is_ascii_digit ds ≡ true) (digits_value 10)
own = numerals_by_value _ (search rules)

from_ok : {E : Type 0} → (r : Result ℕ E) (n v : ℕ) → 0 < n → v < 2 ^ 32 → OkIff r ((0 < n) × (v < 2 ^ 32)) v → result_unwrap_or r 0 ≡ v
from_ok (Ok x) n v some small h = h.1
from_ok (Err e) n v some small h = absurd (h (some, small))

-- one to four digits are parsed to their value
pub value_parsed : {E : Type 0} → (bs : List ℕ) (r : Result ℕ E) → ParsesUnsigned 32 10 bs r → 0 < length bs → length bs ≤ 4 → list_all is_ascii_digit bs ≡ true
    → result_unwrap_or r 0 ≡ digits_value 10 bs
value_parsed bs r parsed some few digits =
    let short = digits_value_short own bs 4 digits few in
    from_ok r (length bs) (digits_value 10 bs) some (omega (arith, short)) (parse_digits own 32 bs r parsed digits)
