-- What the tokens of a text say can be printed.
use Rattle.std.proofs.Common.{◌≡◌, ℕ, zero, suc, pos, ◌+◌, ◌-◌, ◌≤◌, ◌<◌, ◌==◌, ◌||◌, ◌&&◌, nat_le, nat_lt, Bool, true, false, List, [], ◌∷◌, ◌++◌, length, take, drop, take_while, Option, Some, None, option_map, unwrap_or, refl, ap, sym, subst, ◌∙◌, arith, if◌then◌else◌}
use Rattle.std.specs.List.{list_all}
use Rattle.std.proofs.Math.Seq.{take-append_seam}
use Rattle.std.proofs.lemmas.Bool.{eqb-true, leb-true, leb-false, le-leb}
use Rattle.std.proofs.lemmas.List.{length-append, drop-drop}
use Rattle.std.proofs.lemmas.List.Sums.{take_while-cons}
use Rattle.nb_script.specs.declared.lexer.Piece.{Piece}
use Rattle.nb_script.specs.declared.lexer.Piece.TheVariants as piece'
use Rattle.nb_script.specs.declared.lexer.Scanned.{Scanned}
use Rattle.nb_script.specs.declared.lexer.TokenKind.TheVariants as kind
use Rattle.nb_script.specs.declared.lexeme.Content.TheVariants as c
use Rattle.nb_script.specs.Spelling.{Every}
use Rattle.nb_script.specs.Lexing.{is_letter, is_digit, is_word, is_blank, is_comment, is_escape, is_escaped, counted, text_from, text_len, text_piece, most, value_after, number_of, number_piece, symbol_len, symbol_piece, escape, unescaped, within_quotes, piece, by_piece, lex, content_of}
use Rattle.nb_script.proofs.Printable.{pieces, comment_gap, blank_gap, word_token, number_token}
use Rattle.nb_script.proofs.Escapes.{is_plain}
use Rattle.nb_script.proofs.LexBack.{IsPrintable, contents}

-- ---- runs

run_is : (p : ℕ → Bool) (x : ℕ) (xs : List ℕ) (v : Bool) → p x ≡ v → take_while p (x ∷ xs) ≡ (if v then x ∷ take_while p xs else [])
run_is p x xs v e = take_while-cons p x xs ∙ ap (λ v. if v then x ∷ take_while p xs else []) e

-- a run is the front of its list, and passes
record IsRun (p : ℕ → Bool) (xs ys : List ℕ) : Type 0 where
  pub front : take (length ys) xs ≡ ys
  pub passes : list_all p ys ≡ true

run_more : (p : ℕ → Bool) (x : ℕ) (xs : List ℕ) (v : Bool) → p x ≡ v → IsRun p xs (take_while p xs) → IsRun p (x ∷ xs) (if v then x ∷ take_while p xs else [])
run_more p x xs true e it = record { front = ap (λ ys. x ∷ ys) it.front; passes = ap (λ v. v && list_all p (take_while p xs)) e ∙ it.passes }
run_more p x xs false e it = record { front = refl; passes = refl }

run : (p : ℕ → Bool) (xs : List ℕ) → IsRun p xs (take_while p xs)
run p [] = record { front = refl; passes = refl }
run p (x ∷ xs) = subst (IsRun p (x ∷ xs)) (sym (run_is p x xs (p x) refl)) (run_more p x xs (p x) refl (run p xs))

-- ---- texts

-- the bytes of a text up to its closing quote, and what they say
record Inside (bs : List ℕ) (m : ℕ) : Type 0 where
  pub bytes : List ℕ
  pub quote : ℕ
  pub is : take m bs ≡ bytes ++ quote ∷ []
  pub plain : list_all is_plain (unescaped false bytes) ≡ true

abbrev length_by : (u v w : Bool) → List ℕ → Option ℕ
length_by u v w bs = if u then Some 0 else (if v then (if is_escaped bs then Some 2 else None) else (if w then None else Some 1))

abbrev slashed : Bool → Option ℕ
slashed e = if e then Some 2 else None

plain_by : (x : ℕ) (q s n r t : Bool) → (x == 34) ≡ q → (x == 92) ≡ s → (x == 110) ≡ n → (x == 114) ≡ r → (x == 116) ≡ t → is_escape x ≡ true → is_plain (escape x) ≡ true
plain_by x true s n r t a b d e f it = subst (λ x. is_plain (escape x) ≡ true) (sym (eqb-true x 34 a)) refl
plain_by x false true n r t a b d e f it = subst (λ x. is_plain (escape x) ≡ true) (sym (eqb-true x 92 b)) refl
plain_by x false false true r t a b d e f it = subst (λ x. is_plain (escape x) ≡ true) (sym (eqb-true x 110 d)) refl
plain_by x false false false true t a b d e f it = subst (λ x. is_plain (escape x) ≡ true) (sym (eqb-true x 114 e)) refl
plain_by x false false false false true a b d e f it = subst (λ x. is_plain (escape x) ≡ true) (sym (eqb-true x 116 f)) refl
plain_by x false false false false false a b d e f it = (
    let none : is_escape x ≡ false = ap (λ v. v || x == 92 || x == 110 || x == 114 || x == 116) a ∙ ap (λ v. v || x == 110 || x == 114 || x == 116) b ∙ ap (λ v. v || x == 114 || x == 116) d ∙ ap (λ v. v || x == 116) e ∙ f in
    let clash : true ≡ false = sym it ∙ none in cc)

plain_escape : (x : ℕ) → is_escape x ≡ true → is_plain (escape x) ≡ true
plain_escape x e = plain_by x (x == 34) (x == 92) (x == 110) (x == 114) (x == 116) refl refl refl refl refl e

-- one byte as it is
inside_one : (b : ℕ) (bs : List ℕ) (m : ℕ) → (b == 92) ≡ false → nat_lt b 32 ≡ false → Inside bs m → Inside (b ∷ bs) (m + 1)
inside_one b bs m slash small it =
    let low : 32 ≤ b = (let not_less : 32 < suc b = leb-false (suc b) 32 small in omega arith) in
    record {
      bytes = b ∷ it.bytes;
      quote = it.quote;
      is = ap (λ i. take i (b ∷ bs)) (let e : m + 1 ≡ suc m = omega arith in e) ∙ ap (λ ys. b ∷ ys) it.is;
      plain = ap (λ v. list_all is_plain (if v then unescaped true it.bytes else b ∷ unescaped false it.bytes)) slash
          ∙ ap (λ v. (v || b == 9 || b == 10 || b == 13) && list_all is_plain (unescaped false it.bytes)) (le-leb 32 b low) ∙ it.plain;
    }

-- an escape
inside_two : (b x : ℕ) (bs : List ℕ) (m : ℕ) → (b == 92) ≡ true → is_escape x ≡ true → Inside bs m → Inside (b ∷ x ∷ bs) (m + 1 + 1)
inside_two b x bs m slash e it = record {
  bytes = b ∷ x ∷ it.bytes;
  quote = it.quote;
  is = ap (λ i. take i (b ∷ x ∷ bs)) (let e : m + 1 + 1 ≡ suc (suc m) = omega arith in e) ∙ ap (λ ys. b ∷ x ∷ ys) it.is;
  plain = ap (λ v. list_all is_plain (if v then unescaped true (x ∷ it.bytes) else b ∷ unescaped false (x ∷ it.bytes))) slash ∙ ap (λ v. v && list_all is_plain (unescaped false it.bytes)) (plain_escape x e) ∙ it.plain;
}

inside_end : (b : ℕ) (bs : List ℕ) → Inside (b ∷ bs) 1
inside_end b bs = record { bytes = []; quote = b; is = refl; plain = refl }

-- where the rest of a text ends
abbrev Ends : List ℕ → Option ℕ → Type 0
Ends bs None = Unit {0}
Ends bs (Some m) = Inside bs m

ends_one : (b : ℕ) (bs : List ℕ) (r : Option ℕ) → (b == 92) ≡ false → nat_lt b 32 ≡ false → Ends bs r → Ends (b ∷ bs) (option_map (λ m. m + 1) r)
ends_one b bs None slash small it = tt
ends_one b bs (Some m) slash small it = inside_one b bs m slash small it

ends_two : (b x : ℕ) (bs : List ℕ) (r : Option ℕ) → (b == 92) ≡ true → is_escape x ≡ true → Ends bs r → Ends (b ∷ x ∷ bs) (option_map (λ m. m + 1) (option_map (λ m. m + 1) r))
ends_two b x bs None slash e it = tt
ends_two b x bs (Some m) slash e it = inside_two b x bs m slash e it

-- by what stands in front: the rest, one byte on and two bytes on
text_case : (b : ℕ) (bs : List ℕ) (u v w : Bool) → (b == 34) ≡ u → (b == 92) ≡ v → nat_lt b 32 ≡ w → text_from 0 (b ∷ bs) ≡ counted (length_by u v w bs) (λ n. text_from n bs)
unfolding text_from
text_case b bs u v w p q r =
    ap (λ u. counted (length_by u (b == 92) (nat_lt b 32) bs) (λ n. text_from n bs)) p ∙ ap (λ v. counted (length_by u v (nat_lt b 32) bs) (λ n. text_from n bs)) q ∙ ap (λ w. counted (length_by u v w bs) (λ n. text_from n bs)) r

skip_one : (x : ℕ) (bs : List ℕ) → text_from 1 (x ∷ bs) ≡ option_map (λ m. m + 1) (text_from 0 bs)
unfolding text_from
skip_one x bs = refl

no_text : text_from 0 [] ≡ None
unfolding text_from
no_text = refl

ends_slash : (b x : ℕ) (bs : List ℕ) (e : Bool) → (b == 92) ≡ true → is_escape x ≡ e → Ends bs (text_from 0 bs) → Ends (b ∷ x ∷ bs) (counted (slashed e) (λ n. text_from n (x ∷ bs)))
ends_slash b x bs true slash is it = subst (λ r. Ends (b ∷ x ∷ bs) (option_map (λ m. m + 1) r)) (sym (skip_one x bs)) (ends_two b x bs (text_from 0 bs) slash is it)
ends_slash b x bs false slash is it = tt

-- where the rest behind the next byte ends
abbrev TailEnds : List ℕ → Type 0
TailEnds [] = Unit {0}
TailEnds (x ∷ xs) = Ends xs (text_from 0 xs)

ends_by : (b : ℕ) (bs : List ℕ) (u v w : Bool) → (b == 34) ≡ u → (b == 92) ≡ v → nat_lt b 32 ≡ w → Ends bs (text_from 0 bs) → TailEnds bs → Ends (b ∷ bs) (counted (length_by u v w bs) (λ n. text_from n bs))
ends_by b bs true v w p q r it more = inside_end b bs
ends_by b [] false true w p q r it more = tt
ends_by b (x ∷ bs) false true w p q r it more = ends_slash b x bs (is_escape x) q refl more
ends_by b bs false false true p q r it more = tt
ends_by b bs false false false p q r it more = ends_one b bs (text_from 0 bs) q r it

record BothEnd (bs : List ℕ) : Type 0 where
  pub here : Ends bs (text_from 0 bs)
  pub behind : TailEnds bs

both_end : (bs : List ℕ) → BothEnd bs
both_end [] = record { here = subst (Ends []) (sym no_text) tt; behind = tt }
both_end (b ∷ bs) = (
    let it = both_end bs in
    record {
      here = subst (Ends (b ∷ bs)) (sym (text_case b bs (b == 34) (b == 92) (nat_lt b 32) refl refl refl)) (ends_by b bs (b == 34) (b == 92) (nat_lt b 32) refl refl refl it.here it.behind);
      behind = it.here;
    })

ends_of : (bs : List ℕ) → Ends bs (text_from 0 bs)
ends_of bs = (both_end bs).here

quoted_good : (b : ℕ) (bs : List ℕ) (m : ℕ) → Inside bs m → IsPrintable (content_of kind.Text (take (m + 1) (b ∷ bs)))
quoted_good b bs m it =
    let raw : take (m + 1) (b ∷ bs) ≡ b ∷ (it.bytes ++ it.quote ∷ []) = ap (λ i. take i (b ∷ bs)) (let e : m + 1 ≡ suc m = omega arith in e) ∙ ap (λ ys. b ∷ ys) it.is in
    let size : suc (length (it.bytes ++ it.quote ∷ [])) - 2 ≡ length it.bytes = omega (arith, length-append it.bytes (it.quote ∷ [])) in
    ap (λ ys. list_all is_plain (unescaped false (within_quotes ys))) raw ∙ ap (λ i. list_all is_plain (unescaped false (take i (it.bytes ++ it.quote ∷ [])))) size
    ∙ ap (λ ys. list_all is_plain (unescaped false ys)) (take-append_seam it.bytes (it.quote ∷ [])) ∙ it.plain

-- ---- one token

Good : List ℕ → Piece → Type 0
Good bs (piece'.Token k n) = IsPrintable (content_of k (take n bs))
Good bs _ = Unit {0}

text_good : (b : ℕ) (bs : List ℕ) (r : Option ℕ) → Ends bs r → Good (b ∷ bs) (text_piece r)
unfolding Good
text_good b bs None it = tt
text_good b bs (Some m) it = quoted_good b bs m it

word_good : (b : ℕ) (bs : List ℕ) → is_letter b ≡ true → Good (b ∷ bs) (word_token (b ∷ bs))
unfolding Good
word_good b bs e =
    let word : is_word b ≡ true = ap (λ v. v || is_digit b) e in
    subst (λ w. IsPrintable (c.Word w)) (sym ((run is_word (b ∷ bs)).front)) (subst (λ w. IsPrintable (c.Word w)) (sym (run_is is_word b bs true word)) (e, (run is_word bs).passes))

number_most : (ds : List ℕ) (v : Bool) (n : ℕ) → nat_le (value_after 0 ds) most ≡ v → (if v then Some (value_after 0 ds) else None) ≡ Some n → n ≤ most
number_most ds true n e it = (let same : Some (value_after 0 ds) ≡ Some n = it in let value : value_after 0 ds ≡ n = cc in let le : value_after 0 ds ≤ most = leb-true (value_after 0 ds) most e in omega arith)
number_most ds false n e it = cc

number_good : (bs ds : List ℕ) (r : Option ℕ) → take (length ds) bs ≡ ds → number_of ds ≡ r → Good bs (number_piece (length ds) r)
unfolding Good
number_good bs ds None front e = tt
number_good bs ds (Some n) front e =
    let same : number_of (take (length ds) bs) ≡ Some n = ap number_of front ∙ e in
    subst (λ o. IsPrintable (c.Number (pos (unwrap_or o 0)))) (sym same) (number_most ds (nat_le (value_after 0 ds) most) n refl e)

symbol_good : (bs : List ℕ) (n : ℕ) → Good bs (symbol_piece n)
unfolding Good
symbol_good bs zero = tt
symbol_good bs (suc n) = tt

good_by : (b : ℕ) (bs : List ℕ) (g q h l d : Bool) → is_letter b ≡ l → Good (b ∷ bs) (pieces g q h l d (comment_gap (b ∷ bs)) (text_piece (text_len bs)) (blank_gap (b ∷ bs)) (word_token (b ∷ bs)) (number_token (b ∷ bs)) (symbol_piece (symbol_len (b ∷ bs))))
unfolding Good
good_by b bs true q h l d e = tt
good_by b bs false true h l d e = text_good b bs (text_from 0 bs) (ends_of bs)
good_by b bs false false true l d e = tt
good_by b bs false false false true d e = word_good b bs e
good_by b bs false false false false true e = number_good (b ∷ bs) (take_while is_digit (b ∷ bs)) (number_of (take_while is_digit (b ∷ bs))) ((run is_digit (b ∷ bs)).front) refl
good_by b bs false false false false false e = symbol_good (b ∷ bs) (symbol_len (b ∷ bs))

good : (bs : List ℕ) → Good bs (piece bs)
unfolding Good piece
good [] = tt
good (b ∷ bs) = good_by b bs (is_comment (b ∷ bs)) (b == 34) (is_blank b) (is_letter b) (is_digit b) refl

-- ---- all tokens

abbrev AllGood : List ℕ → Scanned → Type 0
AllGood text s = Every IsPrintable (contents text s)

turn_good : (text : List ℕ) (n at : ℕ) (p : Piece) → Good (drop at text) p → ((to : ℕ) → AllGood text (lex n to (drop to text))) → AllGood text (by_piece at p (λ len. lex n (at + len) (drop len (drop at text))))
unfolding Good
turn_good text n at piece'.End it rest = tt
turn_good text n at (piece'.Gap len) it rest = subst (λ ys. AllGood text (lex n (at + len) ys)) (sym (drop-drop len at text)) (rest (at + len))
turn_good text n at (piece'.Token k len) it rest =
    let size : at + len - at ≡ len = omega arith in
    (subst (λ i. IsPrintable (content_of k (take i (drop at text)))) (sym size) it, subst (λ ys. AllGood text (lex n (at + len) ys)) (sym (drop-drop len at text)) (rest (at + len)))
turn_good text n at (piece'.Bad f) it rest = tt

lex_good : (text : List ℕ) (n at : ℕ) → AllGood text (lex n at (drop at text))
unfolding lex
lex_good text zero at = tt
lex_good text (suc n) at = turn_good text n at (piece (drop at text)) (good (drop at text)) (lex_good text n)

-- What each token of a text says can be printed.
pub text_tokens_good : (text : List ℕ) → Every IsPrintable (contents text (lex (length text) 0 text))
text_tokens_good text = lex_good text (length text) 0
