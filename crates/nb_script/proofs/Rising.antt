-- The spans of a text's tokens rise.
use Rattle.std.proofs.Common.{◌≡◌, ℕ, zero, suc, ◌+◌, ◌≤◌, ◌<◌, ◌==◌, ◌||◌, Bool, true, false, List, [], ◌∷◌, length, drop, take_while, Option, Some, None, refl, ap, sym, subst, ◌∙◌, arith, if◌then◌else◌}
use Rattle.std.proofs.lemmas.List.Sums.{take_while-cons}
use Rattle.nb_script.specs.declared.lexer.Piece.{Piece}
use Rattle.nb_script.specs.declared.lexer.Piece.TheVariants as piece'
use Rattle.nb_script.specs.declared.lexer.Token.{Token}
use Rattle.nb_script.specs.Lexing.{is_letter, is_digit, is_word, is_blank, is_comment, text_len, text_piece, number_of, number_piece, symbol_len, symbol_piece, piece, by_piece, lex, lexed}
use Rattle.nb_script.specs.Spans.{Rise}
use Rattle.nb_script.proofs.Printable.{pieces, comment_gap, blank_gap, word_token, number_token}

-- a token in front has bytes
HasBytes : Piece → Type 0
HasBytes (piece'.Token k n) = 0 < n
HasBytes _ = Unit {0}

some_run : (p : ℕ → Bool) (b : ℕ) (bs : List ℕ) → p b ≡ true → 0 < length (take_while p (b ∷ bs))
some_run p b bs e = subst (λ ys. 0 < length ys) (sym (take_while-cons p b bs ∙ ap (λ v. if v then b ∷ take_while p bs else []) e)) (omega arith)

text_bytes : (r : Option ℕ) → HasBytes (text_piece r)
unfolding HasBytes
text_bytes None = tt
text_bytes (Some n) = omega arith

number_bytes : (n : ℕ) (r : Option ℕ) → 0 < n → HasBytes (number_piece n r)
unfolding HasBytes
number_bytes n None some = tt
number_bytes n (Some m) some = some

symbol_bytes : (n : ℕ) → HasBytes (symbol_piece n)
unfolding HasBytes
symbol_bytes zero = tt
symbol_bytes (suc n) = omega arith

bytes_by : (b : ℕ) (bs : List ℕ) (g q h l d : Bool) → is_letter b ≡ l → is_digit b ≡ d → HasBytes (pieces g q h l d (comment_gap (b ∷ bs)) (text_piece (text_len bs)) (blank_gap (b ∷ bs)) (word_token (b ∷ bs)) (number_token (b ∷ bs)) (symbol_piece (symbol_len (b ∷ bs))))
unfolding HasBytes
bytes_by b bs true q h l d e f = tt
bytes_by b bs false true h l d e f = text_bytes (text_len bs)
bytes_by b bs false false true l d e f = tt
bytes_by b bs false false false true d e f = some_run is_word b bs (ap (λ v. v || is_digit b) e)
bytes_by b bs false false false false true e f = number_bytes (length (take_while is_digit (b ∷ bs))) (number_of (take_while is_digit (b ∷ bs))) (some_run is_digit b bs f)
bytes_by b bs false false false false false e f = symbol_bytes (symbol_len (b ∷ bs))

has_bytes : (bs : List ℕ) → HasBytes (piece bs)
unfolding HasBytes piece
has_bytes [] = tt
has_bytes (b ∷ bs) = bytes_by b bs (is_comment (b ∷ bs)) (b == 34) (is_blank b) (is_letter b) (is_digit b) refl refl

rise_later : (at to : ℕ) (ts : List Token) → at ≤ to → Rise to ts → Rise at ts
rise_later at to [] le it = tt
rise_later at to (t ∷ ts) le it = (let from : to ≤ t.from = it.0 in (omega arith, it.1, it.2))

turn_rises : (n at : ℕ) (bs : List ℕ) (p : Piece) → HasBytes p → ((to : ℕ) (rest : List ℕ) → Rise to (lex n to rest).tokens) → Rise at (by_piece at p (λ len. lex n (at + len) (drop len bs))).tokens
unfolding HasBytes
turn_rises n at bs piece'.End some rest = tt
turn_rises n at bs (piece'.Gap len) some rest = rise_later at (at + len) (lex n (at + len) (drop len bs)).tokens (omega arith) (rest (at + len) (drop len bs))
turn_rises n at bs (piece'.Token k len) some rest = (omega arith, (let has : 0 < len = some in omega arith), rest (at + len) (drop len bs))
turn_rises n at bs (piece'.Bad f) some rest = tt

lex_rises : (n at : ℕ) (bs : List ℕ) → Rise at (lex n at bs).tokens
unfolding lex
lex_rises zero at bs = tt
lex_rises (suc n) at bs = turn_rises n at bs (piece bs) (has_bytes bs) (lex_rises n)

pub spans_rise : (text : List ℕ) (ts : List Token) → ts ≡ (lexed text).tokens → Rise 0 ts
spans_rise text ts e = subst (Rise 0) (sym e) (lex_rises (length text) 0 text)
