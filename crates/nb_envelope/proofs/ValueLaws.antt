-- The spellings and readings of values and of dues.
use Rattle.std.specs.Prelude.{◌≡◌, ◌≤◌, ◌<◌, ◌^◌, ◌==◌, ℕ, List, [], ◌∷◌, ◌++◌, Bool, true, false, cond, nat_le, Option, Some, None, refl}
use Rattle.std.proofs.Common.{◌∙◌, ap, subst, arith}
use Rattle.std.proofs.lemmas.Bool.{eqb-true, leb-true, le-leb}
use Rattle.nb_base.specs.declared.value.Value.{Value}
use Rattle.nb_base.specs.declared.value.Value.TheVariants.{Int, Text, Bool as Truth}
use Rattle.nb_envelope.specs.Spelling.{spelled_u64, spelled_flag, spelled_value, spelled_due, IsValue, IsDue}
use Rattle.nb_envelope.specs.Cells.{◌>>=◌, u64_in, int_in, flag_in, text_in, value_of, value_in, moment_in, due_in}
use Rattle.nb_envelope.specs.Formats.{IsBytes, IsFormat}
use Rattle.nb_envelope.proofs.FormatLaws.{Found, IsBytes-rest, some_is, bind_some, format_u64, format_int, format_flag, format_text, format_test, format_as}

abbrev as_value : {A : Type 0} → (A → Value) → Option (A × List ℕ) → Option (Value × List ℕ)
as_value make read = read >>= λ x. Some (make x.0, x.1)

-- a value of one kind
one_kind : {A : Type 0} (Is : A → Type 0) (spelled : A → List ℕ) (read : List ℕ → Option (A × List ℕ)) (make : A → Value) (k n : ℕ) (bytes : List ℕ) (y : Value × List ℕ) → IsFormat Is spelled read
    → ((x : A) → Is x → IsValue (make x)) → ((x : A) → spelled_value (make x) ≡ k ∷ spelled x) → n ≡ k → IsBytes bytes → as_value make (read bytes) ≡ Some y → Found IsValue spelled_value (n ∷ bytes) y
one_kind Is spelled read make k n bytes y format fine spells is fits e =
    let b = bind_some (read bytes) (λ x. Some (make x.0, x.1)) y e in
    let f = format.found bytes b.0.0 b.0.1 fits b.1 in
    let made : Value × List ℕ = (make b.0.0, b.0.1) in
    let parts : n ∷ bytes ≡ spelled_value (make b.0.0) ++ b.0.1 = rw (spells b.0.0, is) (ap (λ (t : List ℕ). k ∷ t) f.0) in
    subst (Found IsValue spelled_value (n ∷ bytes)) (some_is made y b.2) (parts, fine b.0.0 f.1, f.2)

value_cases : (one two three : Bool) (n : ℕ) (bytes : List ℕ) (y : Value × List ℕ) → (one ≡ true → n ≡ 1) → (two ≡ true → n ≡ 2) → (three ≡ true → n ≡ 3) → IsBytes bytes
    → cond one (as_value Int (int_in bytes)) (cond two (as_value Text (text_in bytes)) (cond three (as_value Truth (flag_in bytes)) None)) ≡ Some y → Found IsValue spelled_value (n ∷ bytes) y
value_cases true two three n bytes y a b c fits e = one_kind _ _ int_in Int 1 n bytes y format_int (λ x is. is) (λ x. refl) (a refl) fits e
value_cases false true three n bytes y a b c fits e = one_kind _ _ text_in Text 2 n bytes y format_text (λ x is. is) (λ x. refl) (b refl) fits e
value_cases false false true n bytes y a b c fits e = one_kind _ _ flag_in Truth 3 n bytes y format_flag (λ x is. is) (λ x. refl) (c refl) fits e
value_cases false false false n bytes y a b c fits e = absurd cc

value_found : (bytes : List ℕ) (v : Value) (rest : List ℕ) → IsBytes bytes → value_in bytes ≡ Some (v, rest) → Found IsValue spelled_value bytes (v, rest)
unfolding value_in value_of
value_found [] v rest fits e = absurd cc
value_found (n ∷ bytes) v rest fits e = value_cases (n == 1) (n == 2) (n == 3) n bytes (v, rest) (eqb-true n 1) (eqb-true n 2) (eqb-true n 3) (IsBytes-rest n bytes fits) e

value_again : (v : Value) (rest : List ℕ) → IsValue v → value_in (spelled_value v ++ rest) ≡ Some (v, rest)
unfolding value_in value_of
value_again (Int z) rest is = rw (format_int.again z rest is) refl
value_again (Text t) rest is = rw (format_text.again t rest is) refl
value_again (Truth b) rest is = rw (format_flag.again b rest tt) refl

pub format_value : IsFormat IsValue spelled_value value_in
format_value = record { found = value_found; again = value_again }

-- ---- moments

pub format_moment : IsFormat (λ m. m ≤ 253402300799) spelled_u64 moment_in
unfolding moment_in
format_moment =
    format_as _ (λ m. m ≤ 253402300799) spelled_u64 moment_in (λ m is. leb-true _ _ is.1) (λ m is. (omega (arith, is), le-leb _ _ is))
    (format_test (λ n. n < 2 ^ 64) spelled_u64 u64_in (λ n. nat_le n 253402300799) format_u64)

abbrev as_due : Option (ℕ × List ℕ) → Option (Option ℕ × List ℕ)
as_due read = read >>= λ m. Some (Some m.0, m.1)

due_cases : (there : Bool) (bytes after : List ℕ) (y : Option ℕ × List ℕ) → bytes ≡ spelled_flag there ++ after → IsBytes after → cond there (as_due (moment_in after)) (Some (None, after)) ≡ Some y
    → Found IsDue spelled_due bytes y
due_cases false bytes after y is fits e =
    let none : Option ℕ × List ℕ = (None, after) in
    subst (Found IsDue spelled_due bytes) (some_is none y e) (is, tt, fits)
due_cases true bytes after y is fits e =
    let b = bind_some (moment_in after) (λ m. Some (Some m.0, m.1)) y e in
    let f = format_moment.found after b.0.0 b.0.1 fits b.1 in
    let made : Option ℕ × List ℕ = (Some b.0.0, b.0.1) in
    subst (Found IsDue spelled_due bytes) (some_is made y b.2) (is ∙ ap (λ (t : List ℕ). 1 ∷ t) f.0, f.1, f.2)

due_found : (bytes : List ℕ) (due : Option ℕ) (rest : List ℕ) → IsBytes bytes → due_in bytes ≡ Some (due, rest) → Found IsDue spelled_due bytes (due, rest)
unfolding due_in
due_found bytes due rest fits e =
    let b = bind_some (flag_in bytes) (λ there. cond there.0 (as_due (moment_in there.1)) (Some (None, there.1))) (due, rest) e in
    let f = format_flag.found bytes b.0.0 b.0.1 fits b.1 in
    due_cases b.0.0 bytes b.0.1 (due, rest) f.0 f.2 b.2

due_again : (due : Option ℕ) (rest : List ℕ) → IsDue due → due_in (spelled_due due ++ rest) ≡ Some (due, rest)
unfolding due_in
due_again None rest is = rw (format_flag.again false rest tt) refl
due_again (Some m) rest is = rw (format_flag.again true (spelled_u64 m ++ rest) tt, format_moment.again m rest is) refl

pub format_due : IsFormat IsDue spelled_due due_in
format_due = record { found = due_found; again = due_again }
