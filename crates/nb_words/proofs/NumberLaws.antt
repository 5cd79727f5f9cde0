-- What `parse` gives for the words that are numbers.
use Rattle.std.specs.Prelude.{◌≡◌, ◌<◌, ◌^◌, ℕ, List, length, Bool, true, false, ◌&&◌, nat_lt, nat_le, cond, Option, Some, None, Result, Ok, Err, refl}
use Rattle.std.proofs.Common.{◌∙◌, ap, arith, rules, lt-ltb, ltb-true}
use Rattle.std.specs.Char.{is_ascii_digit}
use Rattle.std.specs.List.{list_all}
use Rattle.std.specs.Result.{OkIff, result_ok}
use Rattle.std.specs.Str.Parse.{digits_value, ParsesUnsigned}
use Rattle.std.proofs.lemmas.Str.Parse.{IsNumeralModel, IsDigitsTest, numerals_by_value, parse_digits}
use Rattle.nb_words.specs.Cli.{is_number}

own : IsNumeralModel (λ ds. list_all is_ascii_digit ds ≡ true) (digits_value 10)
own = numerals_by_value _ (search rules)

from_ok : {E : Type 0} → (r : Result ℕ E) (v n : ℕ) → 0 < n → OkIff r ((0 < n) × (v < 2 ^ 64)) v → result_ok r ≡ cond (nat_lt v (2 ^ 64)) (Some v) None
from_ok (Ok x) v n some h = rw (lt-ltb v (2 ^ 64) h.0.1) (ap Some h.1)
from_ok (Err e) v n some h =
    (elim (nat_lt v (2 ^ 64)) as (λ b. nat_lt v (2 ^ 64) ≡ b → None ≡ cond b (Some v) None) [
      | true ↦ λ t. absurd (h (some, ltb-true v (2 ^ 64) t))
      | false ↦ λ t. refl
    ]) refl

both : (a b : Bool) → (a && b) ≡ true → (a ≡ true) × (b ≡ true)
both true b h = (refl, h)
both false b h = absurd (cc)

pub value_parsed : {E : Type 0} → (bs : List ℕ) (r : Result ℕ E) → ParsesUnsigned 64 10 bs r → is_number bs ≡ true
    → result_ok r ≡ cond (nat_lt (digits_value 10 bs) (2 ^ 64)) (Some (digits_value 10 bs)) None
value_parsed bs r parsed number =
    let some = both (nat_lt 0 (length bs)) _ number in
    let digits = both (nat_le (length bs) 20) _ some.1 in
    let length_is : 0 < length bs = ltb-true 0 (length bs) some.0 in
    from_ok r (digits_value 10 bs) (length bs) length_is (parse_digits own 64 bs r parsed digits.1)
