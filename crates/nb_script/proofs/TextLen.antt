-- The characters of a text, one after another.
use Rattle.std.proofs.Common.{◌≡◌, ℕ, zero, suc, ◌+◌, ◌≤◌, ◌<◌, List, [], ◌∷◌, length, drop, Option, Some, None, option_map, get_or, drop-cons, length-drop, refl, ap, sym, ◌∙◌, arith}
use Rattle.std.proofs.lemmas.List.{drop-drop, drop_all}
use Rattle.nb_script.specs.Lexing.{inside_len, counted, text_from}

abbrev pub plus : ℕ → Option ℕ → Option ℕ
plus n o = option_map (λ m. m + n) o

plus_plus : (a b c : ℕ) (o : Option ℕ) → a + b ≡ c → plus b (plus a o) ≡ plus c o
plus_plus a b c None e = refl
plus_plus a b c (Some m) e = ap Some (let f : m + a + b ≡ m + c = omega arith in f)

same : (o : Option ℕ) → o ≡ plus 0 o
same None = refl
same (Some m) = ap Some (let f : m ≡ m + 0 = omega arith in f)

-- past the rest of a character
pub text_skip : (n : ℕ) (bs : List ℕ) → n ≤ length bs → text_from n bs ≡ plus n (text_from 0 (drop n bs))
unfolding text_from
text_skip zero bs le = same (text_from 0 bs)
text_skip (suc n) [] le = refl
text_skip (suc n) (b ∷ bs) le = ap (plus 1) (text_skip n bs (omega arith)) ∙ plus_plus n 1 (suc n) (text_from 0 (drop n bs)) (omega arith)

pub text_step : (n b : ℕ) (bs : List ℕ) → inside_len b bs ≡ Some (suc n) → n ≤ length bs → text_from 0 (b ∷ bs) ≡ plus (suc n) (text_from 0 (drop n bs))
unfolding text_from
text_step n b bs e le = ap (λ o. counted o (λ i. text_from i bs)) e ∙ ap (plus 1) (text_skip n bs le) ∙ plus_plus n 1 (suc n) (text_from 0 (drop n bs)) (omega arith)

pub text_closes : (b : ℕ) (bs : List ℕ) → inside_len b bs ≡ Some 0 → text_from 0 (b ∷ bs) ≡ Some 1
unfolding text_from
text_closes b bs e = ap (λ o. counted o (λ i. text_from i bs)) e

pub text_bad : (b : ℕ) (bs : List ℕ) → inside_len b bs ≡ None → text_from 0 (b ∷ bs) ≡ None
unfolding text_from
text_bad b bs e = ap (λ o. counted o (λ i. text_from i bs)) e

-- the same at a place of a list
first_of : (xs : List ℕ) (at : ℕ) → at < length xs → drop at xs ≡ get_or xs at 0 ∷ drop (at + 1) xs
first_of xs at lt = drop-cons xs at 0 lt ∙ ap (λ i. get_or xs at 0 ∷ drop i xs) (let e : suc at ≡ at + 1 = omega arith in e)

pub at_none : (xs : List ℕ) (at : ℕ) → at < length xs → plus at (text_from 0 (drop at xs)) ≡ text_from 0 xs → None ≡ inside_len (get_or xs at 0) (drop (at + 1) xs) → None ≡ text_from 0 xs
at_none xs at lt inv e = sym (ap (plus at) (ap (text_from 0) (first_of xs at lt) ∙ text_bad _ _ (sym e))) ∙ inv

pub at_close : (xs : List ℕ) (at : ℕ) → at < length xs → plus at (text_from 0 (drop at xs)) ≡ text_from 0 xs → Some 0 ≡ inside_len (get_or xs at 0) (drop (at + 1) xs) → Some (at + 1) ≡ text_from 0 xs
at_close xs at lt inv e = ap Some (let f : at + 1 ≡ 1 + at = omega arith in f) ∙ sym (ap (plus at) (ap (text_from 0) (first_of xs at lt) ∙ text_closes _ _ (sym e))) ∙ inv

pub at_step : (xs : List ℕ) (at s : ℕ) → at < length xs → plus at (text_from 0 (drop at xs)) ≡ text_from 0 xs → Some s ≡ inside_len (get_or xs at 0) (drop (at + 1) xs) → 0 < s → at + s ≤ length xs
    → plus (at + s) (text_from 0 (drop (at + s) xs)) ≡ text_from 0 xs
at_step xs at zero lt inv e pos le = absurd (omega arith)
at_step xs at (suc n) lt inv e pos le =
    let room : n ≤ length (drop (at + 1) xs) = simp length-drop (omega arith) in
    let same : at + 1 + n ≡ at + suc n = omega arith in
    sym (ap (plus at) (ap (text_from 0) (first_of xs at lt) ∙ text_step n _ _ (sym e) room)
    ∙ plus_plus (suc n) at (at + suc n) _ (omega arith)
    ∙ ap (λ ys. plus (at + suc n) (text_from 0 ys)) (drop-drop _ _ xs ∙ ap (λ i. drop i xs) same)) ∙ inv

pub at_end : (xs : List ℕ) (at : ℕ) → length xs ≤ at → plus at (text_from 0 (drop at xs)) ≡ text_from 0 xs → None ≡ text_from 0 xs
unfolding text_from
at_end xs at le inv = sym (ap (λ ys. plus at (text_from 0 ys)) (drop_all at xs le)) ∙ inv
