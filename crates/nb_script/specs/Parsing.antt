-- What is answered for a text: its script, or why and where it is none.
use Rattle.std.specs.Prelude.{◌≡◌, ℕ, ◌≤◌, ◌<◌, List, take, length, slice_get, None, option_map, unwrap_or}
use Rattle.std.specs.Str.{IsUtf8, IsValidUpTo}
use Rattle.nb_script.specs.declared.lexer.Token.{Token}
use Rattle.nb_script.specs.declared.lexer.Tail.TheVariants as tail
use Rattle.nb_script.specs.declared.lexer.LexFault.{LexFault}
use Rattle.nb_script.specs.declared.lexer.LexFault.TheVariants as bad
use Rattle.nb_script.specs.declared.lexeme.Lexeme.{Lexeme}
use Rattle.nb_script.specs.declared.fault.Fault.{Fault}
use Rattle.nb_script.specs.declared.fault.Fault.TheVariants as fault
use Rattle.nb_script.specs.declared.script.TheConstants.{MOST_BYTES}
use Rattle.nb_script.specs.declared.script.ScriptFault.{ScriptFault}
use Rattle.nb_script.specs.declared.script.ScriptKind.{ScriptKind}
use Rattle.nb_script.specs.declared.script.ScriptKind.TheVariants as k
use Rattle.nb_script.specs.Grammar.{ItemTerm}
use Rattle.nb_script.specs.Lexing.{line_of, column_of, lexed, lexemes_of}
use Rattle.nb_script.specs.Answer.{Starts, IsFirstPlace, Spells}

-- The fault stands at this byte of the text.
pub record StandsAt (text : List ℕ) (at : ℕ) (f : ScriptFault) : Type 0 where
  pub line : f.line ≡ line_of (take at text)
  pub column : f.column ≡ column_of (take at text)

-- The text isn't too long, and is UTF-8.
pub record IsText (text : List ℕ) : Type 0 where
  pub short : length text ≤ MOST_BYTES
  pub utf8 : IsUtf8 text

-- The tokens of the text are those of the script.
pub record IsScriptText (text : List ℕ) (s : List ItemTerm) : Type 0 where
  pub text_is : IsText text
  pub readable : (lexed text).tail ≡ tail.End
  pub spells : Spells (lexemes_of text) s

pub record IsTooLong (text : List ℕ) (f : ScriptFault) : Type 0 where
  pub long : MOST_BYTES < length text
  pub line : f.line ≡ 1
  pub column : f.column ≡ 1

-- It isn't UTF-8 from this byte on.
pub record IsNotUtf8 (text : List ℕ) (f : ScriptFault) : Type 0 where
  pub short : length text ≤ MOST_BYTES
  pub broken : IsUtf8 text → ⊥
  pub at : ℕ
  pub valid : IsValidUpTo text at
  pub stands : StandsAt text at f

-- No token can be read behind those with which a script begins.
pub record IsUnreadable (text : List ℕ) (b : LexFault) (f : ScriptFault) : Type 0 where
  pub text_is : IsText text
  pub at : ℕ
  pub tail_is : (lexed text).tail ≡ tail.Bad b at
  pub before : Starts (lexemes_of text) (length (lexemes_of text))
  pub stands : StandsAt text at f

-- the place of a token, or of the text's end
abbrev pub place_of : List ℕ → List Lexeme → ℕ → ℕ
place_of text tokens k = unwrap_or (option_map (λ t. t.at) (slice_get tokens k)) (length text)

-- The token is the first with which no script goes on, the end of a text that can be read counted as one.
pub record IsStuck (text : List ℕ) (x : Fault) (f : ScriptFault) : Type 0 where
  pub text_is : IsText text
  pub token : ℕ
  pub first : IsFirstPlace (lexemes_of text) x token
  pub readable : slice_get (lexemes_of text) token ≡ None → (lexed text).tail ≡ tail.End
  pub stands : StandsAt text (place_of text (lexemes_of text) token) f

-- There was no memory.
pub record IsNowhere (f : ScriptFault) : Type 0 where
  pub line : f.line ≡ 0
  pub column : f.column ≡ 0

abbrev pub IsFaultOf : List ℕ → ScriptFault → ScriptKind → Type 0
IsFaultOf text f k.NoMemory = IsNowhere f
IsFaultOf text f k.TooLong = IsTooLong text f
IsFaultOf text f k.NotUtf8 = IsNotUtf8 text f
IsFaultOf text f k.BadToken = IsUnreadable text bad.Token f
IsFaultOf text f k.BadText = IsUnreadable text bad.Text f
IsFaultOf text f k.BadNumber = IsUnreadable text bad.Number f
IsFaultOf text f k.TooDeep = IsStuck text fault.TooDeep f
IsFaultOf text f k.Expected = IsStuck text fault.Expected f

-- why and where the text is no script
abbrev pub IsFault : List ℕ → ScriptFault → Type 0
IsFault text f = IsFaultOf text f f.kind

-- ---- tokens alone

-- the first place at which no token can be read
pub record IsFirstBad (text : List ℕ) (b : LexFault) (f : ScriptFault) : Type 0 where
  pub text_is : IsText text
  pub at : ℕ
  pub tail_is : (lexed text).tail ≡ tail.Bad b at
  pub stands : StandsAt text at f

abbrev pub IsLexFaultOf : List ℕ → ScriptFault → ScriptKind → Type 0
IsLexFaultOf text f k.NoMemory = IsNowhere f
IsLexFaultOf text f k.TooLong = IsTooLong text f
IsLexFaultOf text f k.NotUtf8 = IsNotUtf8 text f
IsLexFaultOf text f k.BadToken = IsFirstBad text bad.Token f
IsLexFaultOf text f k.BadText = IsFirstBad text bad.Text f
IsLexFaultOf text f k.BadNumber = IsFirstBad text bad.Number f
IsLexFaultOf text f k.TooDeep = ⊥
IsLexFaultOf text f k.Expected = ⊥

-- why and where the text has no tokens
abbrev pub IsLexFault : List ℕ → ScriptFault → Type 0
IsLexFault text f = IsLexFaultOf text f f.kind

-- all tokens of the text
pub record AreTokens (text : List ℕ) (ts : List Token) : Type 0 where
  pub text_is : IsText text
  pub tokens : ts ≡ (lexed text).tokens
  pub readable : (lexed text).tail ≡ tail.End

-- ---- what a function answers before the tokens are looked at

abbrev pub IsEarlyOf : List ℕ → ScriptFault → ScriptKind → Type 0
IsEarlyOf text f k.NoMemory = IsNowhere f
IsEarlyOf text f k.TooLong = IsTooLong text f
IsEarlyOf text f k.NotUtf8 = IsNotUtf8 text f
IsEarlyOf text f _ = ⊥

abbrev pub IsEarly : List ℕ → ScriptFault → Type 0
IsEarly text f = IsEarlyOf text f f.kind

abbrev pub nowhere : ScriptFault
nowhere = record { line = 0; column = 0; kind = k.NoMemory }

abbrev pub lex_kind : LexFault → ScriptKind
lex_kind bad.Token = k.BadToken
lex_kind bad.Text = k.BadText
lex_kind bad.Number = k.BadNumber

abbrev pub kind_of : Fault → ScriptKind
kind_of fault.TooDeep = k.TooDeep
kind_of fault.Expected = k.Expected
