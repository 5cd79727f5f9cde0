-- What stands at a place of a text, and the tokens of a text.
use Rattle.std.specs.Prelude.{ℕ, zero, suc, ◌+◌, ◌-◌, ◌*◌, ◌==◌, ◌&&◌, ◌||◌, not, nat_le, nat_lt, Bool, true, false, List, [], ◌∷◌, length, take, drop, take_while, reverse, count_by, Option, Some, None, option_map, unwrap_or, bytes_eq, codes, pos, map, if◌then◌else◌}
use Rattle.nb_script.specs.declared.lexer.Piece.{Piece}
use Rattle.nb_script.specs.declared.lexer.Piece.TheVariants as piece'
use Rattle.nb_script.specs.declared.lexer.Scanned.{Scanned}
use Rattle.nb_script.specs.declared.lexer.Tail.TheVariants as tail
use Rattle.nb_script.specs.declared.lexer.LexFault.TheVariants as bad
use Rattle.nb_script.specs.declared.lexer.TokenKind.{TokenKind}
use Rattle.nb_script.specs.declared.lexer.TokenKind.TheVariants as kind
use Rattle.nb_script.specs.declared.lexer.Token.{Token}
use Rattle.nb_script.specs.declared.lexeme.Symbol.{Symbol}
use Rattle.nb_script.specs.declared.lexeme.Symbol.TheVariants as sym
use Rattle.nb_script.specs.declared.lexeme.Content.{Content}
use Rattle.nb_script.specs.declared.lexeme.Content.TheVariants as c
use Rattle.nb_script.specs.declared.lexeme.Lexeme.{Lexeme}

-- ---- lines and columns, both from 1, by the bytes before a place

abbrev pub line_of : List ℕ → ℕ
line_of before = count_by (λ b. b == 10) before + 1

abbrev pub column_of : List ℕ → ℕ
column_of before = length (take_while (λ b. not (b == 10)) (reverse before)) + 1

-- ---- bytes

abbrev pub is_letter : ℕ → Bool
is_letter b = (nat_le 97 b && nat_le b 122) || (nat_le 65 b && nat_le b 90) || b == 95

abbrev pub is_digit : ℕ → Bool
is_digit b = nat_le 48 b && nat_le b 57

abbrev pub is_word : ℕ → Bool
is_word b = is_letter b || is_digit b

abbrev pub is_blank : ℕ → Bool
is_blank b = b == 32 || b == 9 || b == 13 || b == 10

-- what may stand behind a backslash: quote, backslash, n, r, t
abbrev pub is_escape : ℕ → Bool
is_escape b = b == 34 || b == 92 || b == 110 || b == 114 || b == 116

-- ---- texts: the bytes behind the opening quote, with the closing one

abbrev pub is_escaped : List ℕ → Bool
is_escaped [] = false
is_escaped (c ∷ bs) = is_escape c

-- the bytes of one character, and 0 for the closing quote
abbrev pub inside_len : ℕ → List ℕ → Option ℕ
inside_len b bs =
    if b == 34 then Some 0
    else (if b == 92 then (if is_escaped bs then Some 2 else None)
    else (if nat_lt b 32 then None else Some 1))

-- of so many bytes in front the next ones belong to a character that began before
abbrev pub counted : Option ℕ → (ℕ → Option ℕ) → Option ℕ
counted None go = None
counted (Some zero) go = Some 1
counted (Some (suc n)) go = option_map (λ m. m + 1) (go n)

-- the first number is how many bytes in front belong to a character that began before
unfoldable pub text_from : ℕ → List ℕ → Option ℕ
text_from skipped [] = None
text_from (suc skipped) (b ∷ bs) = option_map (λ m. m + 1) (text_from skipped bs)
text_from zero (b ∷ bs) = counted (inside_len b bs) (λ n. text_from n bs)

abbrev pub text_len : List ℕ → Option ℕ
text_len bs = text_from 0 bs

-- ---- numbers

abbrev pub value_after : ℕ → List ℕ → ℕ
value_after n [] = n
value_after n (b ∷ bs) = value_after (n * 10 + (b - 48)) bs

-- the greatest number
abbrev pub most : ℕ
most = 9223372036854775807

-- the value of digits, where it isn't too great
abbrev pub number_of : List ℕ → Option ℕ
number_of ds = if nat_le (value_after 0 ds) most then Some (value_after 0 ds) else None

-- ---- symbols, the longest first

abbrev pub is_two : ℕ → ℕ → Bool
is_two b c = ((b == 61 || b == 33 || b == 60 || b == 62) && c == 61) || (b == 43 && c == 43) || (b == 38 && c == 38) || (b == 124 && c == 124)

abbrev pub is_one : ℕ → Bool
is_one b = b == 123 || b == 125 || b == 40 || b == 41 || b == 44 || b == 59 || b == 58 || b == 46 || b == 61 || b == 60 || b == 62 || b == 43 || b == 45 || b == 42 || b == 33

abbrev pub symbol_len : List ℕ → ℕ
symbol_len [] = 0
symbol_len (b ∷ []) = if is_one b then 1 else 0
symbol_len (b ∷ c ∷ bs) = if is_two b c then 2 else (if is_one b then 1 else 0)

-- ---- one piece

abbrev pub text_piece : Option ℕ → Piece
text_piece None = piece'.Bad bad.Text
text_piece (Some n) = piece'.Token kind.Text (n + 1)

abbrev pub number_piece : ℕ → Option ℕ → Piece
number_piece len None = piece'.Bad bad.Number
number_piece len (Some n) = piece'.Token kind.Number len

abbrev pub symbol_piece : ℕ → Piece
symbol_piece zero = piece'.Bad bad.Token
symbol_piece (suc n) = piece'.Token kind.Symbol (suc n)

abbrev pub is_comment : List ℕ → Bool
is_comment (b ∷ c ∷ bs) = b == 47 && c == 47
is_comment _ = false

unfoldable pub piece : List ℕ → Piece
piece [] = piece'.End
piece (b ∷ bs) =
    if is_comment (b ∷ bs) then piece'.Gap (length (take_while (λ b. not (b == 10)) (b ∷ bs)))
    else (if b == 34 then text_piece (text_len bs)
    else (if is_blank b then piece'.Gap (length (take_while is_blank (b ∷ bs)))
    else (if is_letter b then piece'.Token kind.Word (length (take_while is_word (b ∷ bs)))
    else (if is_digit b then number_piece (length (take_while is_digit (b ∷ bs))) (number_of (take_while is_digit (b ∷ bs)))
    else symbol_piece (symbol_len (b ∷ bs))))))

-- how many bytes it has
abbrev pub piece_len : Piece → ℕ
piece_len (piece'.Gap n) = n
piece_len (piece'.Token k n) = n
piece_len _ = 0

-- ---- all tokens

abbrev pub with_token : Token → Scanned → Scanned
with_token t l = record { tokens = t ∷ l.tokens; tail = l.tail }

-- from a place on, by what stands there and how it goes on behind
abbrev pub by_piece : ℕ → Piece → (ℕ → Scanned) → Scanned
by_piece at piece'.End rest = record { tokens = []; tail = tail.End }
by_piece at (piece'.Gap n) rest = rest n
by_piece at (piece'.Token k n) rest = with_token (record { kind = k; from = at; to = at + n }) (rest n)
by_piece at (piece'.Bad f) rest = record { tokens = []; tail = tail.Bad f at }

-- at most so many gaps and tokens, from a place and the bytes there
unfoldable pub lex : ℕ → ℕ → List ℕ → Scanned
lex zero at bytes = record { tokens = []; tail = tail.End }
lex (suc n) at bytes = by_piece at (piece bytes) (λ len. lex n (at + len) (drop len bytes))

-- gaps and tokens one after another, each as long as it can be
abbrev pub lexed : List ℕ → Scanned
lexed text = lex (length text) 0 text

-- ---- what tokens say

abbrev pub escape : ℕ → ℕ
escape b = if b == 110 then 10 else (if b == 114 then 13 else (if b == 116 then 9 else b))

-- the text for which the bytes stand, where a backslash may stand in front of them
abbrev pub unescaped : Bool → List ℕ → List ℕ
unescaped behind [] = []
unescaped true (b ∷ bs) = escape b ∷ unescaped false bs
unescaped false (b ∷ bs) = if b == 92 then unescaped true bs else b ∷ unescaped false bs

-- without the first and the last byte
abbrev pub within_quotes : List ℕ → List ℕ
within_quotes raw = take (length raw - 2) (drop 1 raw)

abbrev pub symbol_of : List ℕ → Symbol
symbol_of w = if bytes_eq w (codes "{") then sym.OpenBrace else
    if bytes_eq w (codes "}") then sym.CloseBrace else
    if bytes_eq w (codes "(") then sym.Open else
    if bytes_eq w (codes ")") then sym.Close else
    if bytes_eq w (codes ",") then sym.Comma else
    if bytes_eq w (codes ";") then sym.Semi else
    if bytes_eq w (codes ":") then sym.Colon else
    if bytes_eq w (codes ".") then sym.Dot else
    if bytes_eq w (codes "=") then sym.Assign else
    if bytes_eq w (codes "==") then sym.Equal else
    if bytes_eq w (codes "!=") then sym.Unequal else
    if bytes_eq w (codes "<") then sym.Less else
    if bytes_eq w (codes "<=") then sym.LessOrEqual else
    if bytes_eq w (codes ">") then sym.Greater else
    if bytes_eq w (codes ">=") then sym.GreaterOrEqual else
    if bytes_eq w (codes "+") then sym.Plus else
    if bytes_eq w (codes "++") then sym.Join else
    if bytes_eq w (codes "-") then sym.Minus else
    if bytes_eq w (codes "*") then sym.Star else
    if bytes_eq w (codes "&&") then sym.And else
    if bytes_eq w (codes "||") then sym.Or else sym.Not

abbrev pub content_of : TokenKind → List ℕ → Content
content_of kind.Word raw = c.Word raw
content_of kind.Number raw = c.Number (pos (unwrap_or (number_of raw) 0))
content_of kind.Text raw = c.Quoted (unescaped false (within_quotes raw))
content_of kind.Symbol raw = c.Symbol (symbol_of raw)

-- the bytes of a token
abbrev pub slice_of : List ℕ → Token → List ℕ
slice_of text t = take (t.to - t.from) (drop t.from text)

abbrev pub lexeme_of : List ℕ → Token → Lexeme
lexeme_of text t = record { at = t.from; content = content_of t.kind (slice_of text t) }

-- what the parser reads of a text, up to where no token can be read
abbrev pub lexemes_of : List ℕ → List Lexeme
lexemes_of text = map (lexeme_of text) (lexed text).tokens
