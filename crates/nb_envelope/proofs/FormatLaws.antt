-- Each spelling and its reading, from the numbers up to the envelope.
use Rattle.std.specs.Prelude.{◌≡◌, ◌≢◌, ◌≤◌, ◌<◌, ◌+◌, ◌^◌, ◌==◌, ℕ, ℤ, zero, suc, List, [], ◌∷◌, ◌++◌, length, take, drop, Bool, true, false, cond, nat_lt, Option, Some, None, Result, Ok, Err, IfOk, FitsSigned, refl}
use Rattle.std.proofs.Common.{◌∙◌, ap, sym, subst, arith, append_assoc, inl, inr}
use Rattle.std.specs.Int.{Width, w32, w64, byte_len, from_be_bytes, to_be_bytes, cast_signed, cast_unsigned}
use Rattle.std.proofs.lemmas.Bool.{cases_lt, ltb-false, le-ltb}
use Rattle.std.proofs.lemmas.List.{take_at, drop_at, take-append-drop, length-append, length-take, get_or-drop, get_or-take, get_or_past}
use Rattle.std.proofs.lemmas.Nat.{be_bytes_4, be_bytes_8, from_be_bytes-to_be_bytes_4, from_be_bytes-to_be_bytes_8}
use Rattle.std.proofs.lemmas.Bool.{eqb-true}
use Rattle.std.proofs.lemmas.Int.{to_z-of_z, of_z-to_z}
use Rattle.std.proofs.Math.Facts.{sfits_to_z, Fits-of_z, Fits-of_lt}
use Rattle.std.proofs.lemmas.Str.{is_utf8-from_IsUtf8, IsUtf8-from_is_utf8}
use Rattle.std.specs.Str.{is_utf8}
use Rattle.std.specs.List.{flat_map, AllByRecursion}
use Rattle.std.proofs.lemmas.List.Concat.{flat_map-cons}
use Rattle.std.proofs.lemmas.List.{append-nil, nil_from_length}
use Rattle.nb_envelope.specs.Spelling.{spelled_u32, spelled_u64, spelled_int, spelled_flag, spelled_text, spelled_list, IsText, IsList}
use Rattle.nb_envelope.specs.Cells.{◌>>=◌, number_in, u32_in, u64_in, int_in, flag_in, text_of, text_in, items_in, list_in, whole, Gives}
use Rattle.nb_envelope.specs.declared.fault.FormatFault.{FormatFault}
use Rattle.nb_envelope.specs.declared.fault.FormatFault.TheVariants.{Damaged}
use Rattle.nb_envelope.specs.Formats.{IsBytes, IsFormat, NoneBegins}

IsBytes-drop : (n : ℕ) (bytes : List ℕ) → IsBytes bytes → IsBytes (drop n bytes)
IsBytes-drop n bytes h i = rw get_or-drop (h (n + i))

IsBytes-take : (n : ℕ) (bytes : List ℕ) → IsBytes bytes → IsBytes (take n bytes)
IsBytes-take n bytes h i =
    elim (cases_lt i n) [
      | inl lt ↦ rw (get_or-take n bytes i 0 lt) (h i)
      | inr le ↦ rw (get_or_past (take n bytes) i 0 (omega (arith, length-take n bytes))) (omega arith)
    ]

pub IsBytes-rest : (b : ℕ) (bytes : List ℕ) → IsBytes (b ∷ bytes) → IsBytes bytes
IsBytes-rest b bytes h i = h (suc i)

abbrev some : {A : Type 0} → A → Option A
some x = Some x

pub some_is : {A : Type 0} (x y : A) → some x ≡ some y → x ≡ y
some_is x y e = cc

-- the value of a step that gave one
pub bind_some : {A B : Type 0} (r : Option A) (f : A → Option B) (y : B) → (r >>= f) ≡ Some y → (x : A) × (r ≡ Some x) × (f x ≡ Some y)
bind_some None f y e = absurd cc
bind_some (Some x) f y e = (x, refl, e)

-- a test that passed
pub test_some : {A : Type 0} (b : Bool) (x y : A) → cond b (Some x) None ≡ Some y → (b ≡ true) × (x ≡ y)
test_some true x y e = (refl, cc)
test_some false x y e = absurd cc

pub guard_some : {A : Type 0} (b : Bool) (x y : A) → cond b None (Some x) ≡ Some y → (b ≡ false) × (x ≡ y)
guard_some true x y e = absurd cc
guard_some false x y e = (refl, cc)

-- no spelling begins another one, since each is read again
pub none_begins : {A : Type 0} (Is : A → Type 0) (spelled : A → List ℕ) (read : List ℕ → Option (A × List ℕ)) → IsFormat Is spelled read → NoneBegins Is spelled
none_begins Is spelled read format x y r s is_x is_y e =
    let both = some_is (x, r) (y, s) (sym (format.again x r is_x) ∙ ap read e ∙ format.again y s is_y) in
    (ap (λ p. p.0) both, ap (λ p. p.1) both)

-- what a reader found at the front
abbrev pub Found : {A : Type 0} → (A → Type 0) → (A → List ℕ) → List ℕ → A × List ℕ → Type 0
Found Is spelled bytes x = (bytes ≡ spelled x.0 ++ x.1) × Is x.0 × IsBytes x.1

-- ---- numbers

record IsWide (w : Width) (limit : ℕ) : Type 0 where
  pub len : (n : ℕ) → length (to_be_bytes w n) ≡ byte_len w
  pub back : (bytes : List ℕ) → length bytes ≡ byte_len w → IsBytes bytes → to_be_bytes w (from_be_bytes w bytes) ≡ bytes
  pub again : (n : ℕ) → n < limit → from_be_bytes w (to_be_bytes w n) ≡ n
  pub below : (bytes : List ℕ) → IsBytes bytes → from_be_bytes w bytes < limit

wide32 : IsWide w32 (2 ^ 32)
wide32 = record {
  len = λ n. refl;
  back = λ bytes len fits. be_bytes_4 bytes _ len fits refl;
  again = λ n lt. from_be_bytes-to_be_bytes_4 n lt;
  below = λ bytes fits. omega (arith, fits 0, fits 1, fits 2, fits 3);
}

wide64 : IsWide w64 (2 ^ 64)
wide64 = record {
  len = λ n. refl;
  back = λ bytes len fits. be_bytes_8 bytes _ len fits refl;
  again = λ n lt. from_be_bytes-to_be_bytes_8 n lt;
  below = λ bytes fits. omega (arith, fits 0, fits 1, fits 2, fits 3, fits 4, fits 5, fits 6, fits 7);
}

number_found : (w : Width) (limit : ℕ) (wide : IsWide w limit) (bytes : List ℕ) (n : ℕ) (rest : List ℕ) → IsBytes bytes → number_in w bytes ≡ Some (n, rest) → (bytes ≡ to_be_bytes w n ++ rest) × (n < limit) × IsBytes rest
unfolding number_in
number_found w limit wide bytes n rest fits e =
    let g = guard_some (nat_lt (length bytes) (byte_len w)) (from_be_bytes w (take (byte_len w) bytes), drop (byte_len w) bytes) (n, rest) e in
    let long : byte_len w ≤ length bytes = ltb-false _ _ g.0 in
    let n-is : from_be_bytes w (take (byte_len w) bytes) ≡ n = ap (λ (p : ℕ × List ℕ). p.0) g.1 in
    let rest-is : drop (byte_len w) bytes ≡ rest = ap (λ (p : ℕ × List ℕ). p.1) g.1 in
    let front : to_be_bytes w n ≡ take (byte_len w) bytes = rw (← n-is) (wide.back (take (byte_len w) bytes) (omega (arith, length-take (byte_len w) bytes)) (IsBytes-take (byte_len w) bytes fits)) in
    (rw (front, ← rest-is) (sym (take-append-drop (byte_len w) bytes)), rw (← n-is) (wide.below (take (byte_len w) bytes) (IsBytes-take (byte_len w) bytes fits)), rw (← rest-is) (IsBytes-drop (byte_len w) bytes fits))

number_again : (w : Width) (limit : ℕ) (wide : IsWide w limit) (n : ℕ) (rest : List ℕ) → n < limit → number_in w (to_be_bytes w n ++ rest) ≡ Some (n, rest)
unfolding number_in
number_again w limit wide n rest lt =
    let len = wide.len n in
    let long : nat_lt (length (to_be_bytes w n ++ rest)) (byte_len w) ≡ false = le-ltb _ _ (omega (arith, length-append (to_be_bytes w n) rest)) in
    rw (long, take_at (to_be_bytes w n) rest (byte_len w) len, drop_at (to_be_bytes w n) rest (byte_len w) len, wide.again n lt) refl

format_number : (w : Width) (limit : ℕ) → IsWide w limit → IsFormat (λ n. n < limit) (to_be_bytes w) (number_in w)
format_number w limit wide = record { found = number_found w limit wide; again = number_again w limit wide }

pub format_u32 : IsFormat (λ n. n < 2 ^ 32) spelled_u32 u32_in
unfolding spelled_u32
format_u32 = format_number w32 (2 ^ 32) wide32

pub format_u64 : IsFormat (λ n. n < 2 ^ 64) spelled_u64 u64_in
unfolding spelled_u64
format_u64 = format_number w64 (2 ^ 64) wide64

int_found : (bytes : List ℕ) (z : ℤ) (rest : List ℕ) → IsBytes bytes → int_in bytes ≡ Some (z, rest) → (bytes ≡ spelled_int z ++ rest) × FitsSigned w64 z × IsBytes rest
unfolding int_in
int_found bytes z rest fits e =
    let n = bind_some (u64_in bytes) (λ n. Some (cast_signed w64 n.0, n.1)) (z, rest) e in
    let f = format_u64.found bytes n.0.0 n.0.1 fits n.1 in
    let is = some_is (cast_signed w64 n.0.0, n.0.1) (z, rest) n.2 in
    let bits : cast_unsigned w64 (cast_signed w64 n.0.0) ≡ n.0.0 = of_z-to_z w64 n.0.0 f.1 in
    subst (λ (x : ℤ × List ℕ). (bytes ≡ spelled_int x.0 ++ x.1) × FitsSigned w64 x.0 × IsBytes x.1) is (f.0 ∙ ap (λ k. spelled_u64 k ++ n.0.1) (sym bits), sfits_to_z (Fits-of_lt f.1), f.2)

int_again : (z : ℤ) (rest : List ℕ) → FitsSigned w64 z → int_in (spelled_int z ++ rest) ≡ Some (z, rest)
unfolding int_in
int_again z rest fits = rw (format_u64.again (cast_unsigned w64 z) rest (let f = Fits-of_z fits in omega (arith, f)), to_z-of_z w64 z fits) refl

pub format_int : IsFormat (FitsSigned w64) spelled_int int_in
format_int = record { found = int_found; again = int_again }

-- ---- one byte

abbrev always : Bool → Type 0
always b = Unit {0}

flag_cases : (zero one : Bool) (n : ℕ) (bytes : List ℕ) (y : Bool × List ℕ) → (zero ≡ true → n ≡ 0) → (one ≡ true → n ≡ 1) → IsBytes bytes
    → cond zero (Some (false, bytes)) (cond one (Some (true, bytes)) None) ≡ Some y → Found always spelled_flag (n ∷ bytes) y
flag_cases true one n bytes y is_zero is_one fits e = subst (Found always spelled_flag (n ∷ bytes)) (some_is (false, bytes) y e) (ap (λ k. k ∷ bytes) (is_zero refl), tt, fits)
flag_cases false true n bytes y is_zero is_one fits e = subst (Found always spelled_flag (n ∷ bytes)) (some_is (true, bytes) y e) (ap (λ k. k ∷ bytes) (is_one refl), tt, fits)
flag_cases false false n bytes y is_zero is_one fits e = absurd cc

flag_found : (bytes : List ℕ) (b : Bool) (rest : List ℕ) → IsBytes bytes → flag_in bytes ≡ Some (b, rest) → Found always spelled_flag bytes (b, rest)
unfolding flag_in
flag_found [] b rest fits e = absurd cc
flag_found (n ∷ bytes) b rest fits e = flag_cases (n == 0) (n == 1) n bytes (b, rest) (eqb-true n 0) (eqb-true n 1) (IsBytes-rest n bytes fits) e

flag_again : (b : Bool) (rest : List ℕ) → flag_in (spelled_flag b ++ rest) ≡ Some (b, rest)
unfolding flag_in
flag_again false rest = refl
flag_again true rest = refl

pub format_flag : IsFormat (λ b. Unit {0}) spelled_flag flag_in
format_flag = record { found = flag_found; again = λ b rest is. flag_again b rest }

-- ---- texts

two_tests : {A : Type 0} (b c : Bool) (x y : A) → cond b None (cond c (Some x) None) ≡ Some y → (b ≡ false) × (c ≡ true) × (x ≡ y)
two_tests true c x y e = absurd cc
two_tests false true x y e = (refl, refl, cc)
two_tests false false x y e = absurd cc

text_found : (bytes t rest : List ℕ) → IsBytes bytes → text_in bytes ≡ Some (t, rest) → Found IsText spelled_text bytes (t, rest)
unfolding text_in text_of
text_found bytes t rest fits e =
    let b = bind_some (u32_in bytes) (λ n. text_of n.0 n.1) (t, rest) e in
    let n = b.0.0 in
    let after = b.0.1 in
    let f = format_u32.found bytes n after fits b.1 in
    let g = two_tests (nat_lt (length after) n) (is_utf8 (take n after)) (take n after, drop n after) (t, rest) b.2 in
    let len : length (take n after) ≡ n = omega (arith, ltb-false _ _ g.0, length-take n after) in
    let parts : bytes ≡ spelled_text (take n after) ++ drop n after =
    f.0 ∙ rw len (ap (λ (x : List ℕ). spelled_u32 n ++ x) (sym (take-append-drop n after)) ∙ sym (append_assoc (spelled_u32 n) (take n after) (drop n after))) in
    let short : length (take n after) < 2 ^ 32 = omega (arith, len, f.1) in
    subst (Found IsText spelled_text bytes) g.2 (parts, (IsUtf8-from_is_utf8 (take n after) g.1, short), IsBytes-drop n after f.2)

text_again : (t rest : List ℕ) → IsText t → text_in (spelled_text t ++ rest) ≡ Some (t, rest)
unfolding text_in text_of
text_again t rest is =
    let long : nat_lt (length (t ++ rest)) (length t) ≡ false = le-ltb _ _ (omega (arith, length-append t rest)) in
    rw (append_assoc (spelled_u32 (length t)) t rest, format_u32.again (length t) (t ++ rest) is.1, long, take_at t rest (length t) refl, drop_at t rest (length t) refl, is_utf8-from_IsUtf8 t is.0) refl

pub format_text : IsFormat IsText spelled_text text_in
format_text = record { found = text_found; again = text_again }

-- ---- a reading with a test, and under other words

pub format_test : {A : Type 0} (Is : A → Type 0) (spelled : A → List ℕ) (read : List ℕ → Option (A × List ℕ)) (test : A → Bool) → IsFormat Is spelled read
    → IsFormat (λ x. Is x × (test x ≡ true)) spelled (λ bytes. read bytes >>= λ x. cond (test x.0) (Some x) None)
format_test Is spelled read test format = record {
  found = λ bytes x rest fits e.
      let b = bind_some (read bytes) (λ y. cond (test y.0) (Some y) None) (x, rest) e in
      let t = test_some (test b.0.0) b.0 (x, rest) b.2 in
      let f = format.found bytes b.0.0 b.0.1 fits b.1 in
      subst (Found (λ x. Is x × (test x ≡ true)) spelled bytes) t.1 (f.0, (f.1, t.0), f.2);
  again = λ x rest is. rw (format.again x rest is.0, is.1) refl;
}

pub format_as : {A : Type 0} (Is As : A → Type 0) (spelled : A → List ℕ) (read : List ℕ → Option (A × List ℕ)) → ((x : A) → Is x → As x) → ((x : A) → As x → Is x)
    → IsFormat Is spelled read → IsFormat As spelled read
format_as Is As spelled read to from format = record {
  found = λ bytes x rest fits e. let f = format.found bytes x rest fits e in (f.0, to x f.1, f.2);
  again = λ x rest is. format.again x rest (from x is);
}

-- ---- one after the other

pub format_both : {A B : Type 0} (Is : A → Type 0) (spelled : A → List ℕ) (read : List ℕ → Option (A × List ℕ)) (Is' : B → Type 0) (spelled' : B → List ℕ) (read' : List ℕ → Option (B × List ℕ))
    → IsFormat Is spelled read → IsFormat Is' spelled' read'
    → IsFormat {A = A × B} (λ p. Is p.0 × Is' p.1) (λ p. spelled p.0 ++ spelled' p.1) (λ bytes. read bytes >>= λ x. read' x.1 >>= λ y. Some ((x.0, y.0), y.1))
format_both {A} {B} Is spelled read Is' spelled' read' first second = record {
  found = λ bytes p rest fits e.
      let x = bind_some (read bytes) (λ x. read' x.1 >>= λ y. Some ((x.0, y.0), y.1)) (p, rest) e in
      let y = bind_some (read' x.0.1) (λ y. Some ((x.0.0, y.0), y.1)) (p, rest) x.2 in
      let f = first.found bytes x.0.0 x.0.1 fits x.1 in
      let g = second.found x.0.1 y.0.0 y.0.1 f.2 y.1 in
      let both : (A × B) × List ℕ = ((x.0.0, y.0.0), y.0.1) in
      let parts : bytes ≡ (spelled x.0.0 ++ spelled' y.0.0) ++ y.0.1 =
      f.0 ∙ ap (λ (t : List ℕ). spelled x.0.0 ++ t) g.0 ∙ sym (append_assoc (spelled x.0.0) (spelled' y.0.0) y.0.1) in
      subst (Found (λ p. Is p.0 × Is' p.1) (λ p. spelled p.0 ++ spelled' p.1) bytes) (some_is both (p, rest) y.2) (parts, (f.1, g.1), g.2);
  again = λ p rest is.
      rw (append_assoc (spelled p.0) (spelled' p.1) rest, first.again p.0 (spelled' p.1 ++ rest) is.0, second.again p.1 rest is.1) refl;
}

-- ---- lists

pub record FoundItems {A : Type 0} (Is : A → Type 0) (spelled : A → List ℕ) (n : ℕ) (bytes : List ℕ) (x : List A × List ℕ) : Type 0 where
  pub parts : bytes ≡ flat_map spelled x.0 ++ x.1
  pub count : length x.0 ≡ n
  pub fits : AllByRecursion Is x.0
  pub rest : IsBytes x.1

items_found : {A : Type 0} (Is : A → Type 0) (spelled : A → List ℕ) (read : List ℕ → Option (A × List ℕ)) → IsFormat Is spelled read → (n : ℕ) (bytes : List ℕ) (x : List A × List ℕ) → IsBytes bytes
    → items_in read n bytes ≡ Some x → FoundItems Is spelled n bytes x
unfolding items_in
items_found {A} Is spelled read format zero bytes x fits e =
    let none : List A × List ℕ = ([], bytes) in
    subst (FoundItems Is spelled 0 bytes) (some_is none x e) (record { parts = refl; count = refl; fits = tt; rest = fits })
items_found {A} Is spelled read format (suc n) bytes x fits e =
    let a = bind_some (read bytes) (λ first. items_in read n first.1 >>= λ others. Some (first.0 ∷ others.0, others.1)) x e in
    let b = bind_some (items_in read n a.0.1) (λ others. Some (a.0.0 ∷ others.0, others.1)) x a.2 in
    let f = format.found bytes a.0.0 a.0.1 fits a.1 in
    let g = items_found Is spelled read format n a.0.1 b.0 f.2 b.1 in
    let all : List A × List ℕ = (a.0.0 ∷ b.0.0, b.0.1) in
    subst (FoundItems Is spelled (suc n) bytes) (some_is all x b.2) (record {
      parts = f.0 ∙ ap (λ (t : List ℕ). spelled a.0.0 ++ t) g.parts ∙ sym (append_assoc (spelled a.0.0) (flat_map spelled b.0.0) b.0.1) ∙ ap (λ (t : List ℕ). t ++ b.0.1) (sym (flat_map-cons spelled a.0.0 b.0.0));
      count = ap suc g.count;
      fits = (f.1, g.fits);
      rest = g.rest;
    })

items_again : {A : Type 0} (Is : A → Type 0) (spelled : A → List ℕ) (read : List ℕ → Option (A × List ℕ)) → IsFormat Is spelled read → (xs : List A) (rest : List ℕ) → AllByRecursion Is xs
    → items_in read (length xs) (flat_map spelled xs ++ rest) ≡ Some (xs, rest)
unfolding items_in
items_again Is spelled read format [] rest is = refl
items_again Is spelled read format (x ∷ xs) rest is =
    let regrouped : flat_map spelled (x ∷ xs) ++ rest ≡ spelled x ++ (flat_map spelled xs ++ rest) = ap (λ (t : List ℕ). t ++ rest) (flat_map-cons spelled x xs) ∙ append_assoc (spelled x) (flat_map spelled xs) rest in
    ap (items_in read (suc (length xs))) regrouped ∙ rw (format.again x (flat_map spelled xs ++ rest) is.0, items_again Is spelled read format xs rest is.1) refl

pub format_list : {A : Type 0} (Is : A → Type 0) (spelled : A → List ℕ) (read : List ℕ → Option (A × List ℕ)) → IsFormat Is spelled read → IsFormat (IsList Is) (spelled_list spelled) (list_in read)
unfolding list_in
format_list Is spelled read format = record {
  found = λ bytes xs rest fits e.
      let n = bind_some (u32_in bytes) (λ n. items_in read n.0 n.1) (xs, rest) e in
      let f = format_u32.found bytes n.0.0 n.0.1 fits n.1 in
      let g = items_found Is spelled read format n.0.0 n.0.1 (xs, rest) f.2 n.2 in
      let short : length xs < 2 ^ 32 = omega (arith, f.1, g.count) in
      let parts : bytes ≡ spelled_list spelled xs ++ rest =
      f.0 ∙ rw (← g.count) (ap (λ (t : List ℕ). spelled_u32 (length xs) ++ t) g.parts ∙ sym (append_assoc (spelled_u32 (length xs)) (flat_map spelled xs) rest)) in
      (parts, (short, g.fits), g.rest);
  again = λ xs rest is.
      rw (append_assoc (spelled_u32 (length xs)) (flat_map spelled xs) rest, format_u32.again (length xs) (flat_map spelled xs ++ rest) is.0) (items_again Is spelled read format xs rest is.1);
}

-- ---- all of the bytes

pub whole_found : {A : Type 0} (Is : A → Type 0) (spelled : A → List ℕ) (read : List ℕ → Option (A × List ℕ)) (bytes : List ℕ) (x : A) → IsFormat Is spelled read → IsBytes bytes → whole read bytes ≡ Some x
    → Is x × (bytes ≡ spelled x)
unfolding whole
whole_found Is spelled read bytes x format fits e =
    let b = bind_some (read bytes) (λ y. cond (length y.1 == 0) (Some y.0) None) x e in
    let t = test_some (length b.0.1 == 0) b.0.0 x b.2 in
    let f = format.found bytes b.0.0 b.0.1 fits b.1 in
    let nothing : b.0.1 ≡ [] = nil_from_length b.0.1 (eqb-true _ _ t.0) in
    let parts : bytes ≡ spelled b.0.0 = f.0 ∙ ap (λ (r : List ℕ). spelled b.0.0 ++ r) nothing ∙ append-nil (spelled b.0.0) in
    subst (λ y. Is y × (bytes ≡ spelled y)) t.1 (f.1, parts)

pub whole_again : {A : Type 0} (Is : A → Type 0) (spelled : A → List ℕ) (read : List ℕ → Option (A × List ℕ)) (x : A) → IsFormat Is spelled read → Is x → whole read (spelled x) ≡ Some x
unfolding whole
whole_again Is spelled read x format is = rw (← append-nil (spelled x), format.again x [] is) refl

-- ---- what a call gave that reads all of the bytes

pub decoded_found : {A : Type 0} (Is : A → Type 0) (spelled : A → List ℕ) (read : List ℕ → Option (A × List ℕ)) (bytes : List ℕ) (r : Result A FormatFault) → IsFormat Is spelled read → IsBytes bytes
    → Gives (λ x. x) r (whole read bytes) → IfOk r (λ x. Is x × (bytes ≡ spelled x))
decoded_found Is spelled read bytes (Ok x) format fits given = whole_found Is spelled read bytes x format fits given
decoded_found Is spelled read bytes (Err e) format fits given = tt

pub decoded_only : {A : Type 0} (Is : A → Type 0) (spelled : A → List ℕ) (read : List ℕ → Option (A × List ℕ)) (bytes : List ℕ) (r : Result A FormatFault) → IsFormat Is spelled read
    → Gives (λ x. x) r (whole read bytes) → (x : A) → Is x → bytes ≡ spelled x → Gives (λ x. x) r (Some x)
decoded_only Is spelled read bytes r format given x is e = rw (e, whole_again Is spelled read x format is) at given

pub decoded_damaged : {A : Type 0} (Is : A → Type 0) (spelled : A → List ℕ) (read : List ℕ → Option (A × List ℕ)) (bytes : List ℕ) (r : Result A FormatFault) → IsFormat Is spelled read
    → Gives (λ x. x) r (whole read bytes) → r ≡ Err Damaged → (x : A) → Is x → bytes ≢ spelled x
decoded_damaged Is spelled read bytes r format given damaged x is e = absurd (none (rw damaged at (decoded_only Is spelled read bytes r format given x is e)))
  where
    none : some x ≡ None → ⊥
    none e = absurd cc
