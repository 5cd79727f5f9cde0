-- The elements of a list, read one after another.
use Rattle.std.proofs.Common.{◌≡◌, ℕ, zero, suc, ◌+◌, ◌-◌, ◌<◌, Option, Ok, Err, Bool, true, false, List, [], ◌∷◌, ◌++◌, map, refl, ap, sym, ◌∙◌, arith, append_assoc}
use Rattle.std.proofs.lemmas.List.{append-nil}
use Rattle.nb_script.specs.declared.lexeme.Lexeme.{Lexeme}
use Rattle.nb_script.specs.declared.fault.Fault.{Fault}
use Rattle.nb_script.specs.declared.fault.Fault.TheVariants.{Expected}
use Rattle.nb_script.specs.Reading.{Source, Outcome, Parser, and_then, after_one, many_by, many}

-- what was read, before the rest
abbrev pub before : {A : Type 0} → List A → Outcome (List A) → Outcome (List A)
before xs (Ok r) = Ok (xs ++ r.0, r.1)
before xs (Err e) = Err e

pub map_push : {X A : Type 0} (f : X → A) (xs : List X) (x : X) → map f (xs ++ x ∷ []) ≡ map f xs ++ f x ∷ []
map_push f [] x = refl
map_push f (y ∷ ys) x = ap (λ zs. f y ∷ zs) (map_push f ys x)

one_before : {A : Type 0} (xs : List A) (x : A) (r : Outcome (List A)) → before xs (and_then r (λ ys m. Ok (x ∷ ys, m))) ≡ before (xs ++ x ∷ []) r
one_before xs x (Ok r) = ap (λ ys. Ok (ys, r.1)) (sym (append_assoc xs (x ∷ []) r.0))
one_before xs x (Err e) = refl

pub many_stops : {A : Type 0} (xs : List A) (n : ℕ) (stop : Option Lexeme → Bool) (more : A → Bool) (one : Parser A) (g : Source) (k : ℕ) → 0 < n → stop (g k) ≡ true → before xs (many n stop more one g k) ≡ Ok (xs, k)
unfolding many
many_stops xs zero stop more one g k some e = absurd (omega arith)
many_stops xs (suc n) stop more one g k some e = ap (λ b. before xs (many_by more one (many n stop more one) b g k)) e ∙ ap (λ ys. Ok (ys, k)) (append-nil xs)

pub many_over : {A : Type 0} (xs : List A) (n : ℕ) (stop : Option Lexeme → Bool) (more : A → Bool) (one : Parser A) (g : Source) (k : ℕ) → n ≡ 0 → before xs (many n stop more one g k) ≡ Err (Expected, k)
unfolding many
many_over xs zero stop more one g k e = refl
many_over xs (suc n) stop more one g k e = absurd (omega arith)

many_goes : {A : Type 0} (n : ℕ) (stop : Option Lexeme → Bool) (more : A → Bool) (one : Parser A) (g : Source) (k : ℕ) → stop (g k) ≡ false
    → many (suc n) stop more one g k ≡ and_then (one g k) (λ x m. after_one (more x) x (many n stop more one) g m)
unfolding many
many_goes n stop more one g k e = ap (λ b. many_by more one (many n stop more one) b g k) e

many_turn : {A : Type 0} (lines i : ℕ) (stop : Option Lexeme → Bool) (more : A → Bool) (one : Parser A) (g : Source) (k : ℕ) → i < lines → stop (g k) ≡ false
    → many (lines - i) stop more one g k ≡ and_then (one g k) (λ x m. after_one (more x) x (many (lines - (i + 1)) stop more one) g m)
many_turn lines i stop more one g k lt e =
    let same : lines - i ≡ suc (lines - (i + 1)) = omega arith in
    ap (λ n. many n stop more one g k) same ∙ many_goes (lines - (i + 1)) stop more one g k e

-- a fault of an element is one of the list
pub many_fault : {A : Type 0} (xs : List A) (lines i : ℕ) (stop : Option Lexeme → Bool) (more : A → Bool) (one : Parser A) (g : Source) (k : ℕ) → i < lines → stop (g k) ≡ false → (f : Fault × ℕ) → one g k ≡ Err f
    → before xs (many (lines - i) stop more one g k) ≡ Err f
many_fault xs lines i stop more one g k lt e f read = ap (before xs) (many_turn lines i stop more one g k lt e ∙ ap (λ r. and_then r (λ x m. after_one (more x) x (many (lines - (i + 1)) stop more one) g m)) read)

-- an element with others behind it
pub many_next : {A : Type 0} (xs : List A) (lines i : ℕ) (stop : Option Lexeme → Bool) (more : A → Bool) (one : Parser A) (g : Source) (k : ℕ) (x : A) (m : ℕ) → i < lines → stop (g k) ≡ false → one g k ≡ Ok (x, m) → more x ≡ true
    → before xs (many (lines - i) stop more one g k) ≡ before (xs ++ x ∷ []) (many (lines - (i + 1)) stop more one g m)
many_next xs lines i stop more one g k x m lt e read goes =
    ap (before xs) (many_turn lines i stop more one g k lt e ∙ ap (λ r. and_then r (λ x m. after_one (more x) x (many (lines - (i + 1)) stop more one) g m)) read
    ∙ ap (λ b. after_one b x (many (lines - (i + 1)) stop more one) g m) goes) ∙ one_before xs x (many (lines - (i + 1)) stop more one g m)

-- the last element
pub many_last : {A : Type 0} (xs : List A) (lines i : ℕ) (stop : Option Lexeme → Bool) (more : A → Bool) (one : Parser A) (g : Source) (k : ℕ) (x : A) (m : ℕ) → i < lines → stop (g k) ≡ false → one g k ≡ Ok (x, m) → more x ≡ false
    → before xs (many (lines - i) stop more one g k) ≡ Ok (xs ++ x ∷ [], m)
many_last xs lines i stop more one g k x m lt e read goes =
    ap (before xs) (many_turn lines i stop more one g k lt e ∙ ap (λ r. and_then r (λ x m. after_one (more x) x (many (lines - (i + 1)) stop more one) g m)) read ∙ ap (λ b. after_one b x (many (lines - (i + 1)) stop more one) g m) goes)
