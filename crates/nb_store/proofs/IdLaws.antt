-- The ids of sagas.
use Rattle.std.specs.Prelude.{◌≡◌, ◌≢◌, ◌≤◌, ◌<◌, ◌^◌, ◌&&◌, ◌==◌, ◌↔◌, ℕ, suc, List, [], ◌∷◌, ◌++◌, length, take, drop, Bool, true, false, nat_lt, nat_le, IsTrue, MatchOption, Option, Some, None, Result, Ok, Err, refl}
use Rattle.std.proofs.Common.{Bor, ◌∙◌, ap, sym, subst, arith, rules, get_or, true≢false, ltb-true, lt-ltb, leb-true, le-leb, lit<}
use Rattle.std.specs.Char.{is_ascii_digit}
use Rattle.std.specs.Fmt.{decimal}
use Rattle.std.specs.List.{list_all}
use Rattle.std.specs.Result.{OkIff}
use Rattle.std.specs.Str.{NoCharPasses}
use Rattle.std.specs.Str.Pattern.{RFindsChar, SplitsAroundMatch}
use Rattle.std.specs.Str.Parse.{digits_value, ParsesUnsigned}
use Rattle.std.proofs.lemmas.Fmt.{decimal-digits_value, digits_decimal, digits_value-decimal, first_decimal, decimal_nonempty, decimal_injective}
use Rattle.std.proofs.lemmas.List.{take-append-drop}
use Rattle.std.proofs.lemmas.Str.Parse.{IsNumeralModel, numerals_by_value, parse_digits}
use Rattle.std.proofs.lemmas.Str.Pattern.{NoCharPasses-char, drop_at_char}
use Rattle.nb_base.specs.Sound.{is_index, IsSagaId, IsVersion}
use Rattle.nb_store.specs.Ids.{HasNoSlash}

both : (a b : Bool) → (a && b) ≡ true → (a ≡ true) × (b ≡ true)
both true b e = (refl, e)
both false b e = absurd (true≢false (sym e))

-- ---- slashes

none_at : (xs : List ℕ) → ((i : ℕ) → i < length xs → get_or xs i 0 ≢ 47) → HasNoSlash xs
none_at [] h = tt
none_at (x ∷ xs) h = (h 0 (omega arith), none_at xs (λ i lt. h (suc i) (omega arith)))

no_slash : (xs : List ℕ) → NoCharPasses (λ d. d == 47) xs → HasNoSlash xs
no_slash xs none = none_at xs (λ i lt. NoCharPasses-char 47 xs i none (lit< tt) lt)

from_true : (b : Bool) → IsTrue b → b ≡ true
from_true true h = refl
from_true false h = absurd (lie h)
  where
    lie : IsTrue false → ⊥
    lie h = search rules

to_true : (b : Bool) → b ≡ true → IsTrue b
to_true b e = subst IsTrue (sym e) (search rules)

pub split_parts : (s : List ℕ) (r : Option (Bor (List ℕ) × Bor (List ℕ))) → MatchOption r (RFindsChar 47 s None) (λ x. SplitsAroundMatch (RFindsChar 47) s x.0.now x.1.now)
    → MatchOption r (HasNoSlash s) (λ p. (s ≡ p.0.now ++ 47 ∷ p.1.now) × HasNoSlash p.1.now)
split_parts s None none = no_slash s none
split_parts s (Some p) (i, j, found, front, back, le, before, after) =
    (sym (take-append-drop i s) ∙ ap (λ (t : List ℕ). take i s ++ t) (drop_at_char 47 s i j found.1 (lit< tt)) ∙ rw (front, back) refl, rw back (no_slash (drop j s) found.0))

has_slash : (xs ys : List ℕ) → HasNoSlash (xs ++ 47 ∷ ys) → ⊥
has_slash [] ys h = h.0 refl
has_slash (x ∷ xs) ys h = has_slash xs ys h.1

tail : (a b : ℕ) (x y : List ℕ) → a ∷ x ≡ b ∷ y → x ≡ y
tail a b x y e = cc

head : (a b : ℕ) (x y : List ℕ) → a ∷ x ≡ b ∷ y → a ≡ b
head a b x y e = cc

-- what stands round the last slash
unique : (a b x y : List ℕ) → HasNoSlash x → HasNoSlash y → a ++ 47 ∷ x ≡ b ++ 47 ∷ y → (a ≡ b) × (x ≡ y)
unique [] [] x y no_x no_y e = (refl, tail 47 47 x y e)
unique [] (b ∷ bs) x y no_x no_y e = absurd (has_slash bs y (subst HasNoSlash (tail 47 b x (bs ++ 47 ∷ y) e) no_x))
unique (a ∷ us) [] x y no_x no_y e = absurd (has_slash us x (subst HasNoSlash (sym (tail a 47 (us ++ 47 ∷ x) y e)) no_y))
unique (a ∷ us) (b ∷ bs) x y no_x no_y e =
    let more = unique us bs x y no_x no_y (tail a b (us ++ 47 ∷ x) (bs ++ 47 ∷ y) e) in
    let first = head a b (us ++ 47 ∷ x) (bs ++ 47 ∷ y) e in
    (λ i. first i ∷ more.0 i, more.1)

-- ---- digits

digits_apart : (xs : List ℕ) → list_all is_ascii_digit xs ≡ true → HasNoSlash xs
digits_apart [] h = tt
digits_apart (x ∷ xs) h =
    let b = both (is_ascii_digit x) (list_all is_ascii_digit xs) h in
    (λ slash. true≢false (sym b.0 ∙ ap is_ascii_digit slash), digits_apart xs b.1)

own : IsNumeralModel (λ ds. list_all is_ascii_digit ds ≡ true) (digits_value 10)
own = numerals_by_value _ (search rules)

record IsIndex (xs : List ℕ) : Type 0 where
  digits : list_all is_ascii_digit xs ≡ true
  some : 0 < length xs
  first : 48 < get_or xs 0 0

index_parts : (xs : List ℕ) → is_index xs ≡ true → IsIndex xs
index_parts [] e = absurd (true≢false (sym e))
index_parts (x ∷ xs) e = let b = both (nat_lt 48 x) (list_all is_ascii_digit (x ∷ xs)) e in record { digits = b.1; some = omega arith; first = ltb-true 48 x b.0 }

is_index-from : (xs : List ℕ) → list_all is_ascii_digit xs ≡ true → 0 < length xs → 48 < get_or xs 0 0 → is_index xs ≡ true
is_index-from [] digits some first = absurd (omega arith)
is_index-from (x ∷ xs) digits some first = rw (lt-ltb 48 x first) digits

-- a number from 1 is an index
decimal_index : (n : ℕ) → 1 ≤ n → n < 2 ^ 64 → is_index (decimal n) ≡ true
decimal_index n from short = is_index-from (decimal n) (digits_decimal own n short) (decimal_nonempty n short) (first_decimal n (omega arith) short)

ok_value : {E : Type 0} (r : Result ℕ E) (v n k : ℕ) → OkIff r ((0 < k) × (v < 2 ^ 64)) v → r ≡ Ok n → (v < 2 ^ 64) × (v ≡ n)
ok_value (Ok x) v n k h e = let one = h.1 in (h.0.1, cc)
ok_value (Err x) v n k h e = absurd cc

pub number_found : {E : Type 0} (text : List ℕ) (r : Result ℕ E) (n : ℕ) → is_index text ≡ true → ParsesUnsigned 64 10 text r → r ≡ Ok n → text ≡ decimal n
number_found text r n index parsed ok =
    let p = index_parts text index in
    let v = ok_value r (digits_value 10 text) n (length text) (parse_digits own 64 text r parsed p.digits) ok in
    sym (decimal-digits_value own text p.digits p.some (λ e. absurd (let f = p.first in omega arith)) v.0) ∙ ap decimal v.1

ok_when : {E : Type 0} (r : Result ℕ E) (v k : ℕ) → OkIff r ((0 < k) × (v < 2 ^ 64)) v → 0 < k → v < 2 ^ 64 → (e : E) → r ≡ Err e → ⊥
ok_when (Ok x) v k h some short e is = absurd cc
ok_when (Err x) v k h some short e is = h (some, short)

pub number_none : {E : Type 0} (text : List ℕ) (r : Result ℕ E) (e : E) (n : ℕ) → ParsesUnsigned 64 10 text r → r ≡ Err e → 1 ≤ n → n < 2 ^ 64 → text ≢ decimal n
number_none text r e n parsed failed from short is =
    let p = index_parts (decimal n) (decimal_index n from short) in
    let parsed_n = subst (λ t. ParsesUnsigned 64 10 t r) is parsed in
    ok_when r (digits_value 10 (decimal n)) (length (decimal n)) (parse_digits own 64 (decimal n) r parsed_n p.digits) p.some (subst (λ v. v < 2 ^ 64) (sym (digits_value-decimal own n short)) short) e failed

pub number_other : (text : List ℕ) (n : ℕ) → is_index text ≡ false → 1 ≤ n → n < 2 ^ 64 → text ≢ decimal n
number_other text n other from short is = true≢false (sym (decimal_index n from short) ∙ ap is_index (sym is) ∙ other)

-- ---- numbers of commits

IsVersionText : ℕ → List ℕ → Type 0
IsVersionText commits text = (n : ℕ) × IsVersion commits n × (text ≡ decimal n)

within : (n most : ℕ) → (nat_le 1 n && nat_le n most) ≡ true → IsVersion most n
within n most e = let b = both (nat_le 1 n) (nat_le n most) e in (leb-true 1 n b.0, leb-true n most b.1)

pub version_some : (commits n : ℕ) (text : List ℕ) (r : Bool) → r ≡ (nat_le 1 n && nat_le n commits) → text ≡ decimal n → n < 2 ^ 64 → commits < 2 ^ 64 → IsTrue r ↔ ((m : ℕ) × IsVersion commits m × (text ≡ decimal m))
version_some commits n text r is at short bound = (
  λ yes. (n, within n commits (sym is ∙ from_true r yes), at),
  λ (m, version, named).
      let same : n ≡ m = decimal_injective n m short (omega (arith, version.1)) (sym at ∙ named) in
      to_true r (is ∙ rw same (rw (le-leb 1 m version.0, le-leb m commits version.1) refl)),
)

pub version_none : (commits : ℕ) (text : List ℕ) → ((n : ℕ) → 1 ≤ n → n < 2 ^ 64 → text ≢ decimal n) → commits < 2 ^ 64 → IsTrue false ↔ ((m : ℕ) × IsVersion commits m × (text ≡ decimal m))
version_none commits text none bound = (λ yes. absurd (true≢false (sym (from_true false yes))), λ (m, version, named). absurd (none m version.0 (omega (arith, version.1)) named))

-- ---- ids

pub id_some : (commits : ℕ) (id front index text number : List ℕ) (r : Bool) → id ≡ front ++ 47 ∷ index → HasNoSlash index → front ≡ text ++ 47 ∷ number → HasNoSlash number
    → commits < 2 ^ 64 → (is_index index ≡ true → IsTrue r ↔ ((m : ℕ) × IsVersion commits m × (number ≡ decimal m))) → (is_index index ≡ false → r ≡ false) → IsTrue r ↔ IsSagaId commits id
id_some commits id front index text number r last no_index first no_number bound holds none =
    (λ t. there (is_index index) refl t, back)
  where
    there : (b : Bool) → is_index index ≡ b → IsTrue r → IsSagaId commits id
    there true e t = let v = (holds e).0 t in (text, v.0, index, last ∙ ap (λ (f : List ℕ). f ++ 47 ∷ index) (first ∙ ap (λ (d : List ℕ). text ++ 47 ∷ d) v.2), v.1, e)
    there false e t = absurd (true≢false (sym (from_true r t) ∙ none e))

    back : IsSagaId commits id → IsTrue r
    back (t, n, i, is, version, index_is) =
        let outer = unique front (t ++ 47 ∷ decimal n) index i no_index (digits_apart i (index_parts i index_is).digits) (sym last ∙ is) in
        let digits = (index_parts (decimal n) (decimal_index n version.0 (omega (arith, version.1)))).digits in
        let inner = unique text t number (decimal n) no_number (digits_apart (decimal n) digits) (sym first ∙ outer.0) in
        (holds (ap is_index outer.1 ∙ index_is)).1 (n, version, inner.1)

no_id : (commits : ℕ) (id : List ℕ) → (IsSagaId commits id → ⊥) → IsTrue false ↔ IsSagaId commits id
no_id commits id never = (λ yes. absurd (true≢false (sym (from_true false yes))), λ is. absurd (never is))

pub id_plain : (commits : ℕ) (id : List ℕ) → HasNoSlash id → IsTrue false ↔ IsSagaId commits id
id_plain commits id none = no_id commits id (λ (t, n, i, is, version, index_is). has_slash (t ++ 47 ∷ decimal n) i (subst HasNoSlash is none))

pub id_one_slash : (commits : ℕ) (id front index : List ℕ) → id ≡ front ++ 47 ∷ index → HasNoSlash index → HasNoSlash front → IsTrue false ↔ IsSagaId commits id
id_one_slash commits id front index last no_index none = no_id commits id (λ (t, n, i, is, version, index_is).
    let outer = unique front (t ++ 47 ∷ decimal n) index i no_index (digits_apart i (index_parts i index_is).digits) (sym last ∙ is) in
    has_slash t (decimal n) (subst HasNoSlash outer.0 none))
