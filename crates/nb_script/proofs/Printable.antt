-- What is printed of a token is read as one token, which says the same.
use Rattle.std.proofs.Common.{◌≡◌, ℕ, suc, ◌≤◌, ◌<◌, ◌==◌, ◌||◌, ◌&&◌, not, nat_le, Bool, true, false, List, [], ◌∷◌, ◌++◌, length, take_while, Some, None, refl, ap, sym, ◌∙◌, arith, if◌then◌else◌}
use Rattle.std.specs.List.{list_all}
use Rattle.std.specs.Fmt.{decimal}
use Rattle.std.proofs.Common.{rules}
use Rattle.std.proofs.lemmas.Bool.{eqb-true, leb-true, lt-leb, le-leb}
use Rattle.std.proofs.lemmas.List.Sums.{take_while-cons}
use Rattle.std.proofs.lemmas.Fmt.{decimal_is_IsNumeral, digits_decimal, digits_value-decimal}
use Rattle.std.proofs.lemmas.Str.Parse.{IsNumeralModel, numerals_by_fold}
use Rattle.nb_script.specs.declared.lexer.Piece.{Piece}
use Rattle.nb_script.specs.declared.lexer.Piece.TheVariants.{Gap, Token}
use Rattle.nb_script.specs.declared.lexer.TokenKind.TheVariants as kind
use Rattle.nb_script.specs.declared.lexeme.Symbol.{Symbol}
use Rattle.nb_script.specs.declared.lexeme.Symbol.TheVariants as sym'
use Rattle.nb_script.specs.Lexing.{is_letter, is_digit, is_word, is_blank, is_comment, text_len, text_piece, number_piece, number_of, value_after, most, symbol_len, symbol_piece, symbol_of, piece}
use Rattle.nb_script.specs.Printing.{symbol_text}

-- ---- bytes

apart_by : (p : ℕ → Bool) (b d : ℕ) (v : Bool) → (b == d) ≡ v → p b ≡ true → p d ≡ false → v ≡ false
apart_by p b d true e holds fails = (let same : b ≡ d = eqb-true b d e in let clash : true ≡ false = sym holds ∙ ap p same ∙ fails in cc)
apart_by p b d false e holds fails = refl

-- A byte that passes a test is none that fails it.
pub apart : (p : ℕ → Bool) (b d : ℕ) → p b ≡ true → p d ≡ false → (b == d) ≡ false
apart p b d holds fails = apart_by p b d (b == d) refl holds fails

pub not_blank : (p : ℕ → Bool) (b : ℕ) → p b ≡ true → p 32 ≡ false → p 9 ≡ false → p 13 ≡ false → p 10 ≡ false → is_blank b ≡ false
not_blank p b holds space tab carriage feed =
    ap (λ v. v || b == 9 || b == 13 || b == 10) (apart p b 32 holds space) ∙ ap (λ v. v || b == 13 || b == 10) (apart p b 9 holds tab) ∙ ap (λ v. v || b == 10) (apart p b 13 holds carriage) ∙ apart p b 10 holds feed

pub not_comment : (b : ℕ) (ys : List ℕ) → (b == 47) ≡ false → is_comment (b ∷ ys) ≡ false
not_comment b [] e = refl
not_comment b (y ∷ ys) e = ap (λ v. v && y == 47) e

pub both : (a b : Bool) → (a && b) ≡ true → (a ≡ true) × (b ≡ true)
both true b e = (refl, e)
both false b e = cc

digit_to : (b : ℕ) → is_digit b ≡ true → b ≤ 57
digit_to b e = leb-true b 57 (both (nat_le 48 b) (nat_le b 57) e).1

not_letter : (b : ℕ) → is_digit b ≡ true → is_letter b ≡ false
not_letter b e =
    let low : b ≤ 57 = digit_to b e in
    let small : nat_le 97 b ≡ false = lt-leb 97 b (omega arith) in
    let great : nat_le 65 b ≡ false = lt-leb 65 b (omega arith) in
    ap (λ v. (v && nat_le b 122) || (nat_le 65 b && nat_le b 90) || b == 95) small ∙ ap (λ v. (v && nat_le b 90) || b == 95) great ∙ apart is_digit b 95 e refl

-- the longest run in front of a byte that ends it
pub take_run : (p : ℕ → Bool) (xs : List ℕ) (y : ℕ) (ys : List ℕ) → list_all p xs ≡ true → p y ≡ false → take_while p (xs ++ y ∷ ys) ≡ xs
take_run p [] y ys all fails = take_while-cons p y ys ∙ ap (λ v. if v then y ∷ take_while p ys else []) fails
take_run p (x ∷ xs) y ys all fails =
    let parts = both (p x) (list_all p xs) all in
    take_while-cons p x (xs ++ y ∷ ys) ∙ ap (λ v. if v then x ∷ take_while p (xs ++ y ∷ ys) else []) parts.0 ∙ ap (λ zs. x ∷ zs) (take_run p xs y ys parts.1 fails)

-- ---- the cases of a piece

abbrev pub pieces : (gap quote blank letter digit : Bool) (g t h w n s : Piece) → Piece
pieces gap quote blank letter digit g t h w n s = if gap then g else (if quote then t else (if blank then h else (if letter then w else (if digit then n else s))))

abbrev pub comment_gap : List ℕ → Piece
comment_gap bs = Gap (length (take_while (λ b. not (b == 10)) bs))

abbrev pub blank_gap : List ℕ → Piece
blank_gap bs = Gap (length (take_while is_blank bs))

abbrev pub word_token : List ℕ → Piece
word_token bs = Token kind.Word (length (take_while is_word bs))

abbrev pub number_token : List ℕ → Piece
number_token bs = number_piece (length (take_while is_digit bs)) (number_of (take_while is_digit bs))

pub piece_cases : (b : ℕ) (bs : List ℕ)
    → piece (b ∷ bs) ≡ pieces (is_comment (b ∷ bs)) (b == 34) (is_blank b) (is_letter b) (is_digit b) (comment_gap (b ∷ bs)) (text_piece (text_len bs)) (blank_gap (b ∷ bs)) (word_token (b ∷ bs)) (number_token (b ∷ bs)) (symbol_piece (symbol_len (b ∷ bs)))
unfolding piece
piece_cases b bs = refl

at_letter : (c q h l d : Bool) (g t i w n s : Piece) → c ≡ false → q ≡ false → h ≡ false → l ≡ true → pieces c q h l d g t i w n s ≡ w
at_letter false false false true d g t i w n s a b e f = refl
at_letter false false false false d g t i w n s a b e f = cc
at_letter false false true l d g t i w n s a b e f = cc
at_letter false true h l d g t i w n s a b e f = cc
at_letter true q h l d g t i w n s a b e f = cc

at_digit : (c q h l d : Bool) (g t i w n s : Piece) → c ≡ false → q ≡ false → h ≡ false → l ≡ false → d ≡ true → pieces c q h l d g t i w n s ≡ n
at_digit false false false false true g t i w n s a b e f y = refl
at_digit false false false false false g t i w n s a b e f y = cc
at_digit false false false true d g t i w n s a b e f y = cc
at_digit false false true l d g t i w n s a b e f y = cc
at_digit false true h l d g t i w n s a b e f y = cc
at_digit true q h l d g t i w n s a b e f y = cc

-- ---- words

pub word_read : (b : ℕ) (bs rest : List ℕ) → is_letter b ≡ true → list_all is_word bs ≡ true → piece (b ∷ (bs ++ 32 ∷ rest)) ≡ Token kind.Word (suc (length bs))
word_read b bs rest first others =
    piece_cases b (bs ++ 32 ∷ rest)
    ∙ at_letter (is_comment (b ∷ (bs ++ 32 ∷ rest))) (b == 34) (is_blank b) (is_letter b) (is_digit b) _ _ _ _ _ _ (not_comment b (bs ++ 32 ∷ rest) (apart is_letter b 47 first refl)) (apart is_letter b 34 first refl) (not_blank is_letter b first refl refl refl refl) first
    ∙ ap (λ xs. Token kind.Word (length xs)) (take_run is_word (b ∷ bs) 32 rest (ap (λ v. (v || is_digit b) && list_all is_word bs) first ∙ others) refl)

-- ---- numbers

digits_model : IsNumeralModel (λ ds. list_all is_digit ds ≡ true) (value_after 0)
digits_model = numerals_by_fold _ (search rules) value_after (record { empty = λ n. refl; more = λ n d ds within. refl })

all_digits : (n : ℕ) → n ≤ most → list_all is_digit (decimal n) ≡ true
all_digits n le = digits_decimal digits_model n (omega arith)

pub digits_back : (n : ℕ) → n ≤ most → number_of (decimal n) ≡ Some n
digits_back n le =
    let value : value_after 0 (decimal n) ≡ n = digits_value-decimal digits_model n (omega arith) in
    ap (λ m. if nat_le m most then Some m else None) value ∙ ap (λ v. if v then Some n else None) (le-leb n most le)

number_run : (ds rest : List ℕ) (n : ℕ) → list_all is_digit ds ≡ true → 0 < length ds → number_of ds ≡ Some n → piece (ds ++ 32 ∷ rest) ≡ Token kind.Number (length ds)
number_run [] rest n all some value = absurd (omega arith)
number_run (d ∷ ds) rest n all some value =
    let first = (both (is_digit d) (list_all is_digit ds) all).0 in
    let run = take_run is_digit (d ∷ ds) 32 rest all refl in
    piece_cases d (ds ++ 32 ∷ rest)
    ∙ at_digit (is_comment (d ∷ (ds ++ 32 ∷ rest))) (d == 34) (is_blank d) (is_letter d) (is_digit d) _ _ _ _ _ _ (not_comment d (ds ++ 32 ∷ rest) (apart is_digit d 47 first refl)) (apart is_digit d 34 first refl) (not_blank is_digit d first refl refl refl refl) (not_letter d first) first
    ∙ ap (λ xs. number_piece (length xs) (number_of xs)) run ∙ ap (number_piece (length (d ∷ ds))) value

pub number_read : (n : ℕ) (rest : List ℕ) → n ≤ most → piece (decimal n ++ 32 ∷ rest) ≡ Token kind.Number (length (decimal n))
number_read n rest le = number_run (decimal n) rest n (all_digits n le) (decimal_is_IsNumeral n (omega arith)).0.0 (digits_back n le)

-- ---- symbols

pub symbol_read : (s : Symbol) (rest : List ℕ) → piece (symbol_text s ++ 32 ∷ rest) ≡ Token kind.Symbol (length (symbol_text s))
unfolding piece
symbol_read sym'.OpenBrace rest = refl
symbol_read sym'.CloseBrace rest = refl
symbol_read sym'.Open rest = refl
symbol_read sym'.Close rest = refl
symbol_read sym'.Comma rest = refl
symbol_read sym'.Semi rest = refl
symbol_read sym'.Colon rest = refl
symbol_read sym'.Dot rest = refl
symbol_read sym'.Assign rest = refl
symbol_read sym'.Equal rest = refl
symbol_read sym'.Unequal rest = refl
symbol_read sym'.Less rest = refl
symbol_read sym'.LessOrEqual rest = refl
symbol_read sym'.Greater rest = refl
symbol_read sym'.GreaterOrEqual rest = refl
symbol_read sym'.Plus rest = refl
symbol_read sym'.Join rest = refl
symbol_read sym'.Minus rest = refl
symbol_read sym'.Star rest = refl
symbol_read sym'.And rest = refl
symbol_read sym'.Or rest = refl
symbol_read sym'.Not rest = refl

pub symbol_back : (s : Symbol) → symbol_of (symbol_text s) ≡ s
symbol_back sym'.OpenBrace = refl
symbol_back sym'.CloseBrace = refl
symbol_back sym'.Open = refl
symbol_back sym'.Close = refl
symbol_back sym'.Comma = refl
symbol_back sym'.Semi = refl
symbol_back sym'.Colon = refl
symbol_back sym'.Dot = refl
symbol_back sym'.Assign = refl
symbol_back sym'.Equal = refl
symbol_back sym'.Unequal = refl
symbol_back sym'.Less = refl
symbol_back sym'.LessOrEqual = refl
symbol_back sym'.Greater = refl
symbol_back sym'.GreaterOrEqual = refl
symbol_back sym'.Plus = refl
symbol_back sym'.Join = refl
symbol_back sym'.Minus = refl
symbol_back sym'.Star = refl
symbol_back sym'.And = refl
symbol_back sym'.Or = refl
symbol_back sym'.Not = refl
