-- How a script is read, token by token: the steps that the parser's functions take.
use Rattle.std.specs.Prelude.{ℕ, ℤ, zero, suc, ◌-◌, ◌==◌, ◌||◌, Bool, true, false, List, [], ◌∷◌, Option, Some, None, Result, Ok, Err, bytes_eq}
use Rattle.nb_script.specs.declared.lexeme.Keyword.{Keyword}
use Rattle.nb_script.specs.declared.lexeme.Keyword.TheVariants as k
use Rattle.nb_script.specs.declared.lexeme.Symbol.{Symbol}
use Rattle.nb_script.specs.declared.lexeme.Symbol.TheVariants as sym
use Rattle.nb_script.specs.declared.lexeme.Content.{Content}
use Rattle.nb_script.specs.declared.lexeme.Content.TheVariants as c
use Rattle.nb_script.specs.declared.lexeme.Lexeme.{Lexeme}
use Rattle.nb_script.specs.declared.lexeme.Seen.{Seen}
use Rattle.nb_script.specs.declared.lexeme.Seen.TheVariants as see
use Rattle.nb_script.specs.declared.fault.Fault.{Fault}
use Rattle.nb_script.specs.declared.fault.Fault.TheVariants.{TooDeep, Expected}
use Rattle.nb_script.specs.declared.expr.Unary.{Unary}
use Rattle.nb_script.specs.declared.expr.Unary.TheVariants as unary
use Rattle.nb_script.specs.declared.expr.Binary.{Binary}
use Rattle.nb_script.specs.declared.expr.Binary.TheVariants as binary
use Rattle.nb_script.specs.declared.expr.Constant.{Constant as ConstantWord}
use Rattle.nb_script.specs.declared.expr.Constant.TheVariants as constant
use Rattle.nb_script.specs.declared.expr.Holder.{Holder}
use Rattle.nb_script.specs.declared.expr.Holder.TheVariants as holder
use Rattle.nb_script.specs.declared.expr.Function.{Function}
use Rattle.nb_script.specs.declared.expr.Function.TheVariants as function
use Rattle.nb_script.specs.Words.{keyword_text, keyword_of}
use Rattle.nb_script.specs.Grammar.{Term, Number, Quoted, Constant, Field, Name, Call, Paren, Prefix, Infix}
use Rattle.nb_script.specs.Spelling.{is_zero, unary_symbol, binary_symbol, constant_key, holder_key, function_key, operators, level, is_alone}

-- the tokens by their numbers
abbrev pub Source : Type 0
Source = ℕ → Option Lexeme

-- what was read and the number of the next token, or the fault and the token at which it stands
abbrev pub Outcome : Type 0 → Type 0
Outcome A = Result (A × ℕ) (Fault × ℕ)

abbrev pub Parser : Type 0 → Type 0
Parser A = Source → ℕ → Outcome A

abbrev pub ret : {A : Type 0} → A → Parser A
ret a = λ source at. Ok (a, at)

abbrev pub fail : {A : Type 0} → Fault → Parser A
fail f = λ source at. Err (f, at)

abbrev pub and_then : {A B : Type 0} → Outcome A → (A → ℕ → Outcome B) → Outcome B
and_then (Ok p) f = f p.0 p.1
and_then (Err e) f = Err e

infixl 10 ◌>>=◌
abbrev pub ◌>>=◌ : {A B : Type 0} → Parser A → (A → Parser B) → Parser B
p >>= q = λ source at. and_then (p source at) (λ a next. q a source next)

-- goes on as the next token says
abbrev pub look : {A : Type 0} → (Option Lexeme → Parser A) → Parser A
look f = λ source at. f (source at) source at

-- ---- one token

abbrev pub taken : {A : Type 0} → Bool → Option A → Parser A
taken past None = fail Expected
taken true (Some a) = fail TooDeep
taken false (Some a) = λ source at. Ok (a, suc at)

-- the next token, where it is one that is wanted, and not past the limits
unfoldable pub take : {A : Type 0} → Bool → (Option Lexeme → Option A) → Parser A
take past want = look (λ o. taken past (want o))

abbrev pub place_if : Bool → ℕ → Option ℕ
place_if true p = Some p
place_if false p = None

abbrev pub symbol_code : Symbol → ℕ
symbol_code sym.OpenBrace = 0
symbol_code sym.CloseBrace = 1
symbol_code sym.Open = 2
symbol_code sym.Close = 3
symbol_code sym.Comma = 4
symbol_code sym.Semi = 5
symbol_code sym.Colon = 6
symbol_code sym.Dot = 7
symbol_code sym.Assign = 8
symbol_code sym.Equal = 9
symbol_code sym.Unequal = 10
symbol_code sym.Less = 11
symbol_code sym.LessOrEqual = 12
symbol_code sym.Greater = 13
symbol_code sym.GreaterOrEqual = 14
symbol_code sym.Plus = 15
symbol_code sym.Join = 16
symbol_code sym.Minus = 17
symbol_code sym.Star = 18
symbol_code sym.And = 19
symbol_code sym.Or = 20
symbol_code sym.Not = 21

abbrev pub is_symbol : Symbol → Content → Bool
is_symbol s (c.Symbol t) = symbol_code t == symbol_code s
is_symbol s _ = false

abbrev pub want_symbol : Symbol → Option Lexeme → Option ℕ
want_symbol s None = None
want_symbol s (Some t) = place_if (is_symbol s t.content) t.at

abbrev pub is_word : List ℕ → Content → Bool
is_word w (c.Word x) = bytes_eq x w
is_word w _ = false

abbrev pub want_this : List ℕ → Option Lexeme → Option ℕ
want_this w None = None
want_this w (Some t) = place_if (is_word w t.content) t.at

abbrev pub word_in : ℕ → Content → Option (ℕ × List ℕ)
word_in p (c.Word x) = Some (p, x)
word_in p _ = None

abbrev pub want_word : Option Lexeme → Option (ℕ × List ℕ)
want_word None = None
want_word (Some t) = word_in t.at t.content

abbrev pub unless_key : Option Keyword → ℕ → List ℕ → Option (ℕ × List ℕ)
unless_key None p x = Some (p, x)
unless_key (Some w) p x = None

abbrev pub name_in : ℕ → Content → Option (ℕ × List ℕ)
name_in p (c.Word x) = unless_key (keyword_of x) p x
name_in p _ = None

abbrev pub want_name : Option Lexeme → Option (ℕ × List ℕ)
want_name None = None
want_name (Some t) = name_in t.at t.content

abbrev pub number_in : ℕ → Content → Option (ℕ × ℤ)
number_in p (c.Number n) = Some (p, n)
number_in p _ = None

abbrev pub want_number : Option Lexeme → Option (ℕ × ℤ)
want_number None = None
want_number (Some t) = number_in t.at t.content

abbrev pub quoted_in : ℕ → Content → Option (ℕ × List ℕ)
quoted_in p (c.Quoted x) = Some (p, x)
quoted_in p _ = None

abbrev pub want_quoted : Option Lexeme → Option (ℕ × List ℕ)
want_quoted None = None
want_quoted (Some t) = quoted_in t.at t.content

-- ---- what the parser goes by

abbrev pub seen_word : Option Keyword → Seen
seen_word None = see.Name
seen_word (Some w) = see.Key w

abbrev pub seen_content : Content → Seen
seen_content (c.Word x) = seen_word (keyword_of x)
seen_content (c.Number n) = see.Number
seen_content (c.Quoted x) = see.Quoted
seen_content (c.Symbol s) = see.Symbol s

unfoldable pub seen : Option Lexeme → Seen
seen None = see.End
seen (Some t) = seen_content t.content

-- goes on as the next token is seen
abbrev pub by_seen : {A : Type 0} → (Seen → Parser A) → Parser A
by_seen f = look (λ o. f (seen o))

unfoldable pub symbol : Symbol → Parser ℕ
symbol s = take false (want_symbol s)

unfoldable pub this : List ℕ → Parser ℕ
this w = take false (want_this w)

unfoldable pub key : Keyword → Parser ℕ
key w = this (keyword_text w)

unfoldable pub word : Parser (ℕ × List ℕ)
word = take false want_word

unfoldable pub name : Parser (ℕ × List ℕ)
name = take false want_name

unfoldable pub number : Parser (ℕ × ℤ)
number = take false want_number

unfoldable pub quoted : Parser (ℕ × List ℕ)
quoted = take false want_quoted

-- ---- lists

abbrev pub after_one : {A : Type 0} → Bool → A → Parser (List A) → Parser (List A)
after_one true x others = others >>= λ xs. ret (x ∷ xs)
after_one false x others = ret (x ∷ [])

abbrev pub many_by : {A : Type 0} → (A → Bool) → Parser A → Parser (List A) → Bool → Parser (List A)
many_by more one others true = ret []
many_by more one others false = one >>= λ x. after_one (more x) x others

-- some in a row, as far as the next token isn't one at which they stop, and the last one wants others behind it; at most so many
unfoldable pub many : {A : Type 0} → ℕ → (Option Lexeme → Bool) → (A → Bool) → Parser A → Parser (List A)
many zero stop more one = fail Expected
many (suc n) stop more one = look (λ o. many_by more one (many n stop more one) (stop o))

abbrev pub is_close_brace : Seen → Bool
is_close_brace (see.Symbol sym.CloseBrace) = true
is_close_brace _ = false

abbrev pub closes : Option Lexeme → Bool
closes o = is_close_brace (seen o)

abbrev pub always : {A : Type 0} → A → Bool
always x = true

-- ---- expressions

-- what may stand one level deeper: an expression in parentheses, and an operand, where so many more operators may come
pub record Deeper : Type 0 where
  pub inner : ℕ → Parser Term
  pub operand : ℕ → Parser Term

abbrev pub parens : Bool → Deeper → ℕ → Parser Term
parens full deeper left = do
  o ← take full (want_symbol sym.Open)
  e ← deeper.inner left
  q ← symbol sym.Close
  ret (Paren o e q)

abbrev pub signed : Bool → Deeper → ℕ → Unary → Parser Term
signed full deeper left op = do
  p ← take (full || is_zero left) (want_symbol (unary_symbol op))
  e ← deeper.operand (left - 1)
  ret (Prefix p op e)

abbrev pub argument : Bool → Deeper → ℕ → Function → ℕ → Parser Term
argument full deeper left f p = do
  o ← take full (want_symbol sym.Open)
  e ← deeper.inner left
  q ← symbol sym.Close
  ret (Call p f o e q)

unfoldable pub call : Bool → Deeper → ℕ → Function → Parser Term
call full deeper left f = key (function_key f) >>= λ p. argument full deeper left f p

unfoldable pub constant_word : ConstantWord → Parser Term
constant_word w = key (constant_key w) >>= λ p. ret (Constant p w)

unfoldable pub holder_field : Holder → Parser Term
holder_field h = do
  p ← key (holder_key h)
  d ← symbol sym.Dot
  n ← word
  ret (Field p h d n.0 n.1)

abbrev pub keyed : Bool → Deeper → ℕ → Keyword → Parser Term
keyed full deeper left k.True = constant_word constant.True
keyed full deeper left k.False = constant_word constant.False
keyed full deeper left k.Retries = constant_word constant.Retries
keyed full deeper left k.Now = constant_word constant.Now
keyed full deeper left k.Sent = constant_word constant.Sent
keyed full deeper left k.Id = constant_word constant.Id
keyed full deeper left k.Msg = holder_field holder.Message
keyed full deeper left k.Saga = holder_field holder.Saga
keyed full deeper left k.Row = call full deeper left function.Row
keyed full deeper left k.Has = call full deeper left function.Has
keyed full deeper left k.Text = call full deeper left function.Text
keyed full deeper left k.Len = call full deeper left function.Len
keyed full deeper left _ = fail Expected

abbrev pub operand_of : Bool → Deeper → ℕ → Seen → Parser Term
operand_of full deeper left see.Number = number >>= λ n. ret (Number n.0 n.1)
operand_of full deeper left see.Quoted = quoted >>= λ t. ret (Quoted t.0 t.1)
operand_of full deeper left see.Name = name >>= λ x. ret (Name x.0 x.1)
operand_of full deeper left (see.Key w) = keyed full deeper left w
operand_of full deeper left (see.Symbol sym.Open) = parens full deeper left
operand_of full deeper left (see.Symbol sym.Minus) = signed full deeper left unary.Negative
operand_of full deeper left (see.Symbol sym.Not) = signed full deeper left unary.Not
operand_of full deeper left _ = fail Expected

unfoldable pub operand_in : Bool → Deeper → ℕ → Parser Term
operand_in full deeper left = by_seen (operand_of full deeper left)

abbrev pub operator_of : Symbol → Option Binary
operator_of sym.Star = Some binary.Times
operator_of sym.Plus = Some binary.Plus
operator_of sym.Minus = Some binary.Minus
operator_of sym.Join = Some binary.Join
operator_of sym.Equal = Some binary.Equal
operator_of sym.Unequal = Some binary.Unequal
operator_of sym.Less = Some binary.Less
operator_of sym.LessOrEqual = Some binary.LessOrEqual
operator_of sym.Greater = Some binary.Greater
operator_of sym.GreaterOrEqual = Some binary.GreaterOrEqual
operator_of sym.And = Some binary.And
operator_of sym.Or = Some binary.Or
operator_of _ = None

abbrev pub kept : Bool → Binary → Option Binary
kept true op = Some op
kept false op = None

abbrev pub at_level : ℕ → Option Binary → Option Binary
at_level n None = None
at_level n (Some op) = kept (level op == n) op

abbrev pub operator_in : ℕ → Seen → Option Binary
operator_in n (see.Symbol s) = at_level n (operator_of s)
operator_in n _ = None

-- the next token as an operator of this level
abbrev pub operator : ℕ → Option Lexeme → Option Binary
operator n o = operator_in n (seen o)

abbrev pub turn : (next : ℕ → Parser Term) (left : ℕ) (e : Term) (again : Term → Parser Term) → Option Binary → Parser Term
turn next left e again None = ret e
turn next left e again (Some op) = do
  p ← take (is_zero (left - operators e)) (want_symbol (binary_symbol op))
  r ← next (left - operators e - 1)
  again (Infix e p op r)

-- an operator and its right operand, behind the left one
abbrev pub joined : (left : ℕ) (next : ℕ → Parser Term) → Term → Binary → Parser Term
joined left next e op = do
  p ← take (is_zero left) (want_symbol (binary_symbol op))
  r ← next (left - 1)
  ret (Infix e p op r)

-- what follows a left operand: at most so many operators of a level, where so many may come from the left operand on
unfoldable pub chain : (turns n : ℕ) (next : ℕ → Parser Term) (left : ℕ) → Term → Parser Term
chain zero n next left e = fail Expected
chain (suc turns) n next left e = look (λ o. turn next left e (chain turns n next left) (operator n o))

-- one comparison may follow
unfoldable pub once : (n : ℕ) (next : ℕ → Parser Term) (left : ℕ) → Term → Parser Term
once n next left e = look (λ o. turn next left e ret (operator n o))

abbrev pub rest_by : Bool → (n : ℕ) (next : ℕ → Parser Term) (left : ℕ) → Term → Parser Term
rest_by true n next left e = once n next left e
rest_by false n next left e = chain (suc left) n next left e

-- an expression of operators up to a level
unfoldable pub climb : (n : ℕ) (first : ℕ → Parser Term) → ℕ → Parser Term
climb zero first left = first left
climb (suc n) first left = climb n first left >>= λ e. rest_by (is_alone (suc n)) (suc n) (climb n first) left e

-- what may stand one level deeper, with room for so many levels
unfoldable pub deeper : ℕ → Deeper
deeper zero = record { inner = λ left. fail Expected; operand = λ left. fail Expected }
deeper (suc room) = record { inner = climb 5 (operand_in (is_zero room) (deeper room)); operand = operand_in (is_zero room) (deeper room) }

abbrev pub operand : ℕ → ℕ → Parser Term
operand room = operand_in (is_zero room) (deeper room)

unfoldable pub expr : ℕ → Parser Term
expr room = climb 5 (operand room) 1000
