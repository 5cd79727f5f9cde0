-- The turns of the loop over a text's pieces.
use Rattle.std.proofs.Common.{◌≡◌, ℕ, zero, suc, ◌+◌, ◌-◌, ◌<◌, List, [], ◌∷◌, ◌++◌, drop, refl, ap, sym, ◌∙◌, arith, append_assoc}
use Rattle.std.proofs.lemmas.List.{drop-drop, append-nil}
use Rattle.nb_script.specs.declared.lexer.Piece.{Piece}
use Rattle.nb_script.specs.declared.lexer.Piece.TheVariants as p'
use Rattle.nb_script.specs.declared.lexer.Tail.{Tail}
use Rattle.nb_script.specs.declared.lexer.Tail.TheVariants as tail
use Rattle.nb_script.specs.declared.lexer.LexFault.{LexFault}
use Rattle.nb_script.specs.declared.lexer.TokenKind.{TokenKind}
use Rattle.nb_script.specs.declared.lexer.Token.{Token}
use Rattle.nb_script.specs.declared.lexer.Scanned.{Scanned}
use Rattle.nb_script.specs.Lexing.{piece, by_piece, lex}

-- tokens before the others
abbrev pub before : List Token → Scanned → Scanned
before xs s = record { tokens = xs ++ s.tokens; tail = s.tail }

abbrev none_left : Tail → Scanned
none_left t = record { tokens = []; tail = t }

abbrev pub ended : List Token → Tail → Scanned
ended xs t = record { tokens = xs; tail = t }

lex_one : (n at : ℕ) (bytes : List ℕ) → lex (suc n) at bytes ≡ by_piece at (piece bytes) (λ len. lex n (at + len) (drop len bytes))
unfolding lex
lex_one n at bytes = refl

at_piece : (text rest : List ℕ) (lines i at : ℕ) (p : Piece) → i < lines → rest ≡ drop at text → p ≡ piece rest
    → lex (lines - i) at (drop at text) ≡ by_piece at p (λ len. lex (lines - (i + 1)) (at + len) (drop len (drop at text)))
at_piece text rest lines i at p lt back e =
    let a : lines - i ≡ suc (lines - (i + 1)) = omega arith in
    ap (λ n. lex n at (drop at text)) a ∙ lex_one (lines - (i + 1)) at (drop at text)
    ∙ ap (λ q. by_piece at q (λ len. lex (lines - (i + 1)) (at + len) (drop len (drop at text)))) (sym (e ∙ ap piece back))

nothing_more : (xs : List Token) (t : Tail) → before xs (none_left t) ≡ ended xs t
nothing_more xs t = ap (λ ys. ended ys t) (append-nil xs)

pub at_end : (xs : List Token) (text rest : List ℕ) (lines i at : ℕ) → i < lines → rest ≡ drop at text → p'.End ≡ piece rest → before xs (lex (lines - i) at (drop at text)) ≡ ended xs tail.End
at_end xs text rest lines i at lt back e = ap (before xs) (at_piece text rest lines i at p'.End lt back e) ∙ nothing_more xs tail.End

pub at_bad : (xs : List Token) (text rest : List ℕ) (lines i at : ℕ) (f : LexFault) → i < lines → rest ≡ drop at text → p'.Bad f ≡ piece rest → before xs (lex (lines - i) at (drop at text)) ≡ ended xs (tail.Bad f at)
at_bad xs text rest lines i at f lt back e = ap (before xs) (at_piece text rest lines i at (p'.Bad f) lt back e) ∙ nothing_more xs (tail.Bad f at)

pub at_gap : (xs : List Token) (text rest : List ℕ) (lines i at n : ℕ) → i < lines → rest ≡ drop at text → p'.Gap n ≡ piece rest
    → before xs (lex (lines - i) at (drop at text)) ≡ before xs (lex (lines - (i + 1)) (at + n) (drop (at + n) text))
at_gap xs text rest lines i at n lt back e = ap (before xs) (at_piece text rest lines i at (p'.Gap n) lt back e ∙ ap (lex (lines - (i + 1)) (at + n)) (drop-drop n at text))

one_before : (xs : List Token) (t : Token) (s : Scanned) → before xs (before (t ∷ []) s) ≡ before (xs ++ t ∷ []) s
one_before xs t s = ap (λ ys. ended ys s.tail) (sym (append_assoc xs (t ∷ []) s.tokens))

pub at_token : (xs : List Token) (text rest : List ℕ) (lines i at n : ℕ) (k : TokenKind) → i < lines → rest ≡ drop at text → p'.Token k n ≡ piece rest
    → before xs (lex (lines - i) at (drop at text)) ≡ before (xs ++ record { kind = k; from = at; to = at + n } ∷ []) (lex (lines - (i + 1)) (at + n) (drop (at + n) text))
at_token xs text rest lines i at n k lt back e =
    ap (before xs) (at_piece text rest lines i at (p'.Token k n) lt back e ∙ ap (λ r. before (record { kind = k; from = at; to = at + n } ∷ []) (lex (lines - (i + 1)) (at + n) r)) (drop-drop n at text))
    ∙ one_before xs _ _

pub at_over : (xs : List Token) (n at : ℕ) (bytes : List ℕ) → n ≡ 0 → before xs (lex n at bytes) ≡ ended xs tail.End
unfolding lex
at_over xs zero at bytes e = nothing_more xs tail.End
at_over xs (suc n) at bytes e = absurd (omega arith)
