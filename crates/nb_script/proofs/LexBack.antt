-- The tokens of a printed text are those that were printed.
use Rattle.std.proofs.Common.{◌≡◌, ℕ, ℤ, zero, suc, pos, negsuc, ◌+◌, ◌-◌, ◌≤◌, ◌<◌, ◌==◌, Bool, true, false, List, [], ◌∷◌, ◌++◌, length, take, drop, take_while, map, unwrap_or, refl, ap, sym, subst, ◌∙◌, arith, append_assoc, if◌then◌else◌}
use Rattle.std.specs.List.{list_all}
use Rattle.std.proofs.Math.Seq.{take-append_seam, drop-append_seam}
use Rattle.std.proofs.lemmas.List.{length-append, drop-drop}
use Rattle.std.proofs.lemmas.List.Sums.{take_while-cons}
use Rattle.nb_script.specs.declared.lexer.Piece.{Piece}
use Rattle.nb_script.specs.declared.lexer.Piece.TheVariants as piece'
use Rattle.nb_script.specs.declared.lexer.Scanned.{Scanned}
use Rattle.nb_script.specs.declared.lexer.Tail.TheVariants as tail
use Rattle.nb_script.specs.declared.lexer.TokenKind.{TokenKind}
use Rattle.nb_script.specs.declared.lexer.TokenKind.TheVariants as kind
use Rattle.nb_script.specs.declared.lexer.Token.{Token}
use Rattle.nb_script.specs.declared.lexeme.Symbol.{Symbol}
use Rattle.nb_script.specs.declared.lexeme.Symbol.TheVariants as sym'
use Rattle.nb_script.specs.declared.lexeme.Content.{Content}
use Rattle.nb_script.specs.declared.lexeme.Content.TheVariants as c
use Rattle.nb_script.specs.Grammar.{ItemTerm}
use Rattle.nb_script.specs.Spelling.{Every}
use Rattle.nb_script.specs.Lexing.{is_letter, is_digit, is_word, is_blank, is_comment, most, piece, by_piece, with_token, lex, content_of, slice_of}
use Rattle.nb_script.specs.Printing.{symbol_text, token_text, texts, all_of, item, printed}
use Rattle.nb_script.proofs.Printable.{pieces, piece_cases, apart, not_comment, blank_gap, word_read, number_read, digits_back, symbol_read, symbol_back}
use Rattle.nb_script.proofs.Escapes.{is_plain, quoted_read, quoted_back}
use Rattle.std.proofs.lemmas.Fmt.{decimal_is_IsNumeral}

-- ---- one token

abbrev pub IsWordText : List ℕ → Type 0
IsWordText [] = ⊥
IsWordText (b ∷ bs) = (is_letter b ≡ true) × (list_all is_word bs ≡ true)

abbrev pub IsNumber : ℤ → Type 0
IsNumber (pos n) = n ≤ most
IsNumber (negsuc n) = ⊥

-- what a token of a text can say
abbrev pub IsPrintable : Content → Type 0
IsPrintable (c.Word w) = IsWordText w
IsPrintable (c.Number n) = IsNumber n
IsPrintable (c.Quoted t) = list_all is_plain t ≡ true
IsPrintable (c.Symbol s) = Unit {0}

abbrev kind_of : Content → TokenKind
kind_of (c.Word w) = kind.Word
kind_of (c.Number n) = kind.Number
kind_of (c.Quoted t) = kind.Text
kind_of (c.Symbol s) = kind.Symbol

token_read : (x : Content) (rest : List ℕ) → IsPrintable x → piece (token_text x ++ 32 ∷ rest) ≡ piece'.Token (kind_of x) (length (token_text x))
unfolding token_text
token_read (c.Word []) rest it = absurd it
token_read (c.Word (b ∷ bs)) rest it = word_read b bs rest it.0 it.1
token_read (c.Number (pos n)) rest it = number_read n rest it
token_read (c.Number (negsuc n)) rest it = absurd it
token_read (c.Quoted t) rest it = quoted_read t rest it
token_read (c.Symbol s) rest it = symbol_read s rest

token_back : (x : Content) → IsPrintable x → content_of (kind_of x) (token_text x) ≡ x
unfolding token_text
token_back (c.Word w) it = refl
token_back (c.Number (pos n)) it = ap (λ o. c.Number (pos (unwrap_or o 0))) (digits_back n it)
token_back (c.Number (negsuc n)) it = absurd it
token_back (c.Quoted t) it = ap c.Quoted (quoted_back t it)
token_back (c.Symbol s) it = ap c.Symbol (symbol_back s)

-- ---- tokens one after another

abbrev pub contents : List ℕ → Scanned → List Content
contents text s = map (λ t. content_of t.kind (slice_of text t)) s.tokens

-- From a place on the text has these tokens.
pub record Lexes (text : List ℕ) (at : ℕ) (bytes : List ℕ) (xs : List Content) : Type 0 where
  pub tokens : (n : ℕ) → length bytes ≤ n → contents text (lex n at bytes) ≡ xs
  pub ends : (n : ℕ) → length bytes ≤ n → (lex n at bytes).tail ≡ tail.End

nothing_in : (text : List ℕ) (at n : ℕ) → contents text (lex n at []) ≡ []
unfolding lex piece
nothing_in text at zero = refl
nothing_in text at (suc n) = refl

ends_there : (at n : ℕ) → (lex n at []).tail ≡ tail.End
unfolding lex piece
ends_there at zero = refl
ends_there at (suc n) = refl

lexes_nothing : (text : List ℕ) (at : ℕ) → Lexes text at [] []
lexes_nothing text at = record { tokens = λ n le. nothing_in text at n; ends = λ n le. ends_there at n }

lex_more : (n at : ℕ) (bytes : List ℕ) → lex (suc n) at bytes ≡ by_piece at (piece bytes) (λ len. lex n (at + len) (drop len bytes))
unfolding lex
lex_more n at bytes = refl

-- ---- blanks

at_blank : (c' q h l d : Bool) (g t i w n s : Piece) → c' ≡ false → q ≡ false → h ≡ true → pieces c' q h l d g t i w n s ≡ i
at_blank false false true l d g t i w n s p r e = refl
at_blank false false false l d g t i w n s p r e = cc
at_blank false true h l d g t i w n s p r e = cc
at_blank true q h l d g t i w n s p r e = cc

blank_read : (b : ℕ) (bs : List ℕ) → is_blank b ≡ true → piece (b ∷ bs) ≡ blank_gap (b ∷ bs)
blank_read b bs e = piece_cases b bs ∙ at_blank (is_comment (b ∷ bs)) (b == 34) (is_blank b) (is_letter b) (is_digit b) _ _ _ _ _ _ (not_comment b bs (apart is_blank b 47 e refl)) (apart is_blank b 34 e refl) e

blank_run : (b : ℕ) (bs : List ℕ) → is_blank b ≡ true → take_while is_blank (b ∷ bs) ≡ b ∷ take_while is_blank bs
blank_run b bs e = take_while-cons is_blank b bs ∙ ap (λ v. if v then b ∷ take_while is_blank bs else []) e

-- a gap that begins with a blank
gap_read : (n at b : ℕ) (bs : List ℕ) → is_blank b ≡ true → lex (suc n) at (b ∷ bs) ≡ lex n (at + suc (length (take_while is_blank bs))) (drop (length (take_while is_blank bs)) bs)
gap_read n at b bs e =
    lex_more n at (b ∷ bs) ∙ ap (λ p. by_piece at p (λ len. lex n (at + len) (drop len (b ∷ bs)))) (blank_read b bs e)
    ∙ ap (λ ys. lex n (at + length ys) (drop (length ys) (b ∷ bs))) (blank_run b bs e)

-- the same from the byte behind the blank on, with enough steps
record Later (n at : ℕ) (bs : List ℕ) (s : Scanned) : Type 0 where
  pub steps : ℕ
  pub enough : length bs ≤ steps
  pub same : s ≡ lex steps (suc at) bs

later_by : (n at b d : ℕ) (bs : List ℕ) (v : Bool) → is_blank d ≡ v → is_blank b ≡ true → length (d ∷ bs) ≤ n → Later n at (d ∷ bs) (lex (suc n) at (b ∷ d ∷ bs))
later_by n at b d bs true e blank le = record {
  steps = suc n;
  enough = (let more : suc (length bs) ≤ suc n = omega arith in more);
  same = gap_read n at b (d ∷ bs) blank ∙ ap (λ ys. lex n (at + suc (length ys)) (drop (length ys) (d ∷ bs))) (blank_run d bs e)
      ∙ ap (λ i. lex n i (drop (length (take_while is_blank bs)) bs)) (let same : at + suc (suc (length (take_while is_blank bs))) ≡ suc at + suc (length (take_while is_blank bs)) = omega arith in same)
      ∙ sym (gap_read n (suc at) d bs e);
}
later_by n at b d bs false e blank le = record {
  steps = n;
  enough = le;
  same = gap_read n at b (d ∷ bs) blank
      ∙ ap (λ ys. lex n (at + suc (length ys)) (drop (length ys) (d ∷ bs))) (take_while-cons is_blank d bs ∙ ap (λ v. if v then d ∷ take_while is_blank bs else []) e)
      ∙ ap (λ i. lex n i (d ∷ bs)) (let same : at + 1 ≡ suc at = omega arith in same);
}

later : (n at b : ℕ) (bs : List ℕ) → is_blank b ≡ true → length bs ≤ n → Later n at bs (lex (suc n) at (b ∷ bs))
later n at b [] blank le = record { steps = n; enough = le; same = gap_read n at b [] blank ∙ ap (λ i. lex n i []) (let same : at + 1 ≡ suc at = omega arith in same) }
later n at b (d ∷ bs) blank le = later_by n at b d bs (is_blank d) refl blank le

blank_tokens : (text : List ℕ) (at b : ℕ) (bs : List ℕ) (xs : List Content) (n : ℕ) → is_blank b ≡ true → Lexes text (suc at) bs xs → length (b ∷ bs) ≤ n → contents text (lex n at (b ∷ bs)) ≡ xs
blank_tokens text at b bs xs zero blank it le = absurd (omega arith)
blank_tokens text at b bs xs (suc n) blank it le = (let l = later n at b bs blank (omega arith) in ap (contents text) l.same ∙ it.tokens l.steps l.enough)

blank_ends : (text : List ℕ) (at b : ℕ) (bs : List ℕ) (xs : List Content) (n : ℕ) → is_blank b ≡ true → Lexes text (suc at) bs xs → length (b ∷ bs) ≤ n → (lex n at (b ∷ bs)).tail ≡ tail.End
blank_ends text at b bs xs zero blank it le = absurd (omega arith)
blank_ends text at b bs xs (suc n) blank it le = (let l = later n at b bs blank (omega arith) in ap (λ s. s.tail) l.same ∙ it.ends l.steps l.enough)

lexes_blank : (text : List ℕ) (at b : ℕ) (bs : List ℕ) (xs : List Content) → is_blank b ≡ true → Lexes text (suc at) bs xs → Lexes text at (b ∷ bs) xs
lexes_blank text at b bs xs blank it = record { tokens = λ n le. blank_tokens text at b bs xs n blank it le; ends = λ n le. blank_ends text at b bs xs n blank it le }

-- ---- a token and what follows

symbol_some : (s : Symbol) → 0 < length (symbol_text s)
symbol_some sym'.OpenBrace = omega arith
symbol_some sym'.CloseBrace = omega arith
symbol_some sym'.Open = omega arith
symbol_some sym'.Close = omega arith
symbol_some sym'.Comma = omega arith
symbol_some sym'.Semi = omega arith
symbol_some sym'.Colon = omega arith
symbol_some sym'.Dot = omega arith
symbol_some sym'.Assign = omega arith
symbol_some sym'.Equal = omega arith
symbol_some sym'.Unequal = omega arith
symbol_some sym'.Less = omega arith
symbol_some sym'.LessOrEqual = omega arith
symbol_some sym'.Greater = omega arith
symbol_some sym'.GreaterOrEqual = omega arith
symbol_some sym'.Plus = omega arith
symbol_some sym'.Join = omega arith
symbol_some sym'.Minus = omega arith
symbol_some sym'.Star = omega arith
symbol_some sym'.And = omega arith
symbol_some sym'.Or = omega arith
symbol_some sym'.Not = omega arith

token_some : (x : Content) → IsPrintable x → 0 < length (token_text x)
unfolding token_text
token_some (c.Word []) it = absurd it
token_some (c.Word (b ∷ bs)) it = omega arith
token_some (c.Number (pos n)) it = (decimal_is_IsNumeral n (omega arith)).0.0
token_some (c.Number (negsuc n)) it = absurd it
token_some (c.Quoted t) it = omega arith
token_some (c.Symbol s) it = symbol_some s

abbrev token_at : Content → ℕ → Token
token_at x at = record { kind = kind_of x; from = at; to = at + length (token_text x) }

token_lexed : (n at : ℕ) (x : Content) (rest : List ℕ) → IsPrintable x → lex (suc n) at (token_text x ++ 32 ∷ rest) ≡ with_token (token_at x at) (lex n (at + length (token_text x)) (32 ∷ rest))
token_lexed n at x rest it =
    lex_more n at (token_text x ++ 32 ∷ rest) ∙ ap (λ p. by_piece at p (λ len. lex n (at + len) (drop len (token_text x ++ 32 ∷ rest)))) (token_read x rest it)
    ∙ ap (λ ys. with_token (token_at x at) (lex n (at + length (token_text x)) ys)) (drop-append_seam (token_text x) (32 ∷ rest))

token_says : (text : List ℕ) (at : ℕ) (x : Content) (rest : List ℕ) → IsPrintable x → drop at text ≡ token_text x ++ 32 ∷ rest → content_of (kind_of x) (slice_of text (token_at x at)) ≡ x
token_says text at x rest it here =
    let size : at + length (token_text x) - at ≡ length (token_text x) = omega arith in
    ap (λ n. content_of (kind_of x) (take n (drop at text))) size ∙ ap (λ ys. content_of (kind_of x) (take (length (token_text x)) ys)) here
    ∙ ap (content_of (kind_of x)) (take-append_seam (token_text x) (32 ∷ rest)) ∙ token_back x it

few : (x : Content) (rest : List ℕ) (n : ℕ) → IsPrintable x → length (token_text x ++ 32 ∷ rest) ≤ suc n → length (32 ∷ rest) ≤ n
few x rest n ok le = (
    let some : 0 < length (token_text x) = token_some x ok in
    let size : length (token_text x ++ 32 ∷ rest) ≡ length (token_text x) + suc (length rest) = length-append (token_text x) (32 ∷ rest) in
    omega arith)

none_left : (x : Content) (rest : List ℕ) → length (token_text x ++ 32 ∷ rest) ≤ 0 → ⊥
none_left x rest le = (let size : length (token_text x ++ 32 ∷ rest) ≡ length (token_text x) + suc (length rest) = length-append (token_text x) (32 ∷ rest) in omega arith)

token_tokens : (text : List ℕ) (at : ℕ) (x : Content) (rest : List ℕ) (xs : List Content) (n : ℕ) → IsPrintable x → drop at text ≡ token_text x ++ 32 ∷ rest → Lexes text (at + length (token_text x)) (32 ∷ rest) xs → length (token_text x ++ 32 ∷ rest) ≤ n
    → contents text (lex n at (token_text x ++ 32 ∷ rest)) ≡ x ∷ xs
token_tokens text at x rest xs zero ok here it le = absurd (none_left x rest le)
token_tokens text at x rest xs (suc n) ok here it le =
    ap (contents text) (token_lexed n at x rest ok) ∙ ap (λ y. y ∷ contents text (lex n (at + length (token_text x)) (32 ∷ rest))) (token_says text at x rest ok here) ∙ ap (λ ys. x ∷ ys) (it.tokens n (few x rest n ok le))

token_ends : (text : List ℕ) (at : ℕ) (x : Content) (rest : List ℕ) (xs : List Content) (n : ℕ) → IsPrintable x → Lexes text (at + length (token_text x)) (32 ∷ rest) xs → length (token_text x ++ 32 ∷ rest) ≤ n → (lex n at (token_text x ++ 32 ∷ rest)).tail ≡ tail.End
token_ends text at x rest xs zero ok it le = absurd (none_left x rest le)
token_ends text at x rest xs (suc n) ok it le = ap (λ s. s.tail) (token_lexed n at x rest ok) ∙ it.ends n (few x rest n ok le)

lexes_token : (text : List ℕ) (at : ℕ) (x : Content) (rest : List ℕ) (xs : List Content) → IsPrintable x → drop at text ≡ token_text x ++ 32 ∷ rest → Lexes text (at + length (token_text x)) (32 ∷ rest) xs → Lexes text at (token_text x ++ 32 ∷ rest) (x ∷ xs)
lexes_token text at x rest xs ok here it = record { tokens = λ n le. token_tokens text at x rest xs n ok here it le; ends = λ n le. token_ends text at x rest xs n ok it le }

-- ---- whole texts

behind : (text : List ℕ) (at : ℕ) (xs ys : List ℕ) → drop at text ≡ xs ++ ys → drop (at + length xs) text ≡ ys
behind text at xs ys here = sym (drop-drop (length xs) at text) ∙ ap (drop (length xs)) here ∙ drop-append_seam xs ys

next : (text : List ℕ) (at b : ℕ) (ys : List ℕ) → drop at text ≡ b ∷ ys → drop (suc at) text ≡ ys
next text at b ys here = ap (λ i. drop i text) (let e : suc at ≡ at + 1 = omega arith in e) ∙ behind text at (b ∷ []) ys here

-- what follows a row of tokens, wherever it stands
abbrev Follows : List ℕ → List ℕ → List Content → Type 0
Follows text rest ys = (at : ℕ) → drop at text ≡ rest → Lexes text at rest ys

texts_lex : (text : List ℕ) (xs : List Content) (rest : List ℕ) (ys : List Content) → Every IsPrintable xs → Follows text rest ys → Follows text (texts xs ++ rest) (xs ++ ys)
texts_lex text [] rest ys all follows at here = follows at here
texts_lex text (x ∷ xs) rest ys all follows at here =
    let whole : (token_text x ++ 32 ∷ texts xs) ++ rest ≡ token_text x ++ 32 ∷ (texts xs ++ rest) = append_assoc (token_text x) (32 ∷ texts xs) rest in
    let there : drop (at + length (token_text x)) text ≡ 32 ∷ (texts xs ++ rest) = behind text at (token_text x) _ (here ∙ whole) in
    subst (λ bytes. Lexes text at bytes (x ∷ (xs ++ ys))) (sym whole)
    (lexes_token text at x (texts xs ++ rest) (xs ++ ys) all.0 (here ∙ whole) (lexes_blank text (at + length (token_text x)) 32 (texts xs ++ rest) (xs ++ ys) refl
    (texts_lex text xs rest ys all.1 follows (suc (at + length (token_text x))) (next text (at + length (token_text x)) 32 (texts xs ++ rest) there))))

every_front : (xs ys : List Content) → Every IsPrintable (xs ++ ys) → Every IsPrintable xs
every_front [] ys all = tt
every_front (x ∷ xs) ys all = (all.0, every_front xs ys all.1)

every_back : (xs ys : List Content) → Every IsPrintable (xs ++ ys) → Every IsPrintable ys
every_back [] ys all = all
every_back (x ∷ xs) ys all = every_back xs ys all.1

printed_lex : (text : List ℕ) (items : List ItemTerm) → Every IsPrintable (all_of item items) → Follows text (printed items) (all_of item items)
printed_lex text [] all at here = lexes_nothing text at
printed_lex text (x ∷ xs) all at here =
    texts_lex text (item x) (10 ∷ printed xs) (all_of item xs) (every_front (item x) (all_of item xs) all)
    (λ at here. lexes_blank text at 10 (printed xs) (all_of item xs) refl (printed_lex text xs (every_back (item x) (all_of item xs) all) (suc at) (next text at 10 (printed xs) here))) at here

-- The text that is printed has the tokens that are printed.
pub printed_lexes : (items : List ItemTerm) → Every IsPrintable (all_of item items) → Lexes (printed items) 0 (printed items) (all_of item items)
printed_lexes items all = printed_lex (printed items) items all 0 refl
