-- What is answered for a text is right.
use Rattle.std.proofs.Common.{◌≡◌, ℕ, zero, suc, ◌≤◌, arith, [], ◌∷◌, Option, Some, None, Ok, List, length, slice_get, option_map, unwrap_or, map, refl, ap, sym, subst, ◌∙◌}
use Rattle.nb_script.specs.declared.lexer.Tail.TheVariants as tail
use Rattle.nb_script.specs.declared.lexer.LexFault.{LexFault}
use Rattle.nb_script.specs.declared.lexer.LexFault.TheVariants as bad
use Rattle.nb_script.specs.declared.lexeme.Lexeme.{Lexeme}
use Rattle.nb_script.specs.declared.fault.Fault.{Fault}
use Rattle.nb_script.specs.declared.fault.Fault.TheVariants as fault
use Rattle.nb_script.specs.declared.script.ScriptFault.{ScriptFault}
use Rattle.nb_script.specs.Grammar.{ItemTerm}
use Rattle.nb_script.specs.declared.lexer.Scanned.{Scanned}
use Rattle.nb_script.specs.Lexing.{lexed, lexeme_of, lexemes_of}
use Rattle.nb_script.specs.ReadingScript.{whole}
use Rattle.nb_script.specs.Answer.{Starts, IsFirstPlace, Spells}
use Rattle.nb_script.specs.Parsing.{IsText, StandsAt, IsScriptText, IsUnreadable, IsStuck, place_of, IsFaultOf, IsFault, lex_kind, kind_of}
use Rattle.nb_script.proofs.First.{found}

-- a script begins with all of its tokens
pub spells_starts : (ts : List Lexeme) (s : List ItemTerm) → Spells ts s → Starts ts (length ts)
spells_starts ts s it = record { whole = s; grammatical = it.grammatical; agrees = λ j lt. ap (λ xs. slice_get xs j) (sym it.spelled); keeps = λ j x lt e. it.keeps j x e }

bad_of : (text : List ℕ) (b : LexFault) (f : ScriptFault) → IsUnreadable text b f → IsFaultOf text f (lex_kind b)
bad_of text bad.Token f it = it
bad_of text bad.Text f it = it
bad_of text bad.Number f it = it

-- no token can be read behind those with which a script begins
pub unreadable_fault : (text : List ℕ) (b : LexFault) (at : ℕ) (f : ScriptFault) → IsText text → (lexed text).tail ≡ tail.Bad b at → Starts (lexemes_of text) (length (lexemes_of text)) → StandsAt text at f → f.kind ≡ lex_kind b → IsFault text f
unreadable_fault text b at f is here starts stands kind = subst (λ kind. IsFaultOf text f kind) (sym kind) (bad_of text b f (record { text_is = is; at = at; tail_is = here; before = starts; stands = stands }))

stuck_of : (text : List ℕ) (x : Fault) (f : ScriptFault) → IsStuck text x f → IsFaultOf text f (kind_of x)
stuck_of text fault.TooDeep f it = it
stuck_of text fault.Expected f it = it

-- a token with which no script goes on
pub stuck_fault : (text : List ℕ) (x : Fault) (n : ℕ) (f : ScriptFault) → IsText text → IsFirstPlace (lexemes_of text) x n → (slice_get (lexemes_of text) n ≡ None → (lexed text).tail ≡ tail.End) → StandsAt text (place_of text (lexemes_of text) n) f → f.kind ≡ kind_of x
    → IsFault text f
stuck_fault text x n f is first readable stands kind = subst (λ kind. IsFaultOf text f kind) (sym kind) (stuck_of text x f (record { text_is = is; token = n; first = first; readable = readable; stands = stands }))

past_end : (ts : List Lexeme) (n : ℕ) → slice_get ts n ≡ None → length ts ≤ n
past_end [] n e = omega arith
past_end (t ∷ ts) zero e = cc
past_end (t ∷ ts) (suc n) e = let le : length ts ≤ n = past_end ts n e in omega arith

-- what begins with more tokens begins with fewer
pub starts_all : (ts : List Lexeme) (n : ℕ) → slice_get ts n ≡ None → Starts ts n → Starts ts (length ts)
starts_all ts n none it =
    let le : length ts ≤ n = past_end ts n none in
    record { whole = it.whole; grammatical = it.grammatical; agrees = λ j lt. it.agrees j (omega arith); keeps = λ j x lt e. it.keeps j x (omega arith) e }

-- what holds of the very tokens of a text holds of an equal list
abbrev IsStuckAt : List ℕ → Fault → ℕ → ScriptFault → List Lexeme → Type 0
IsStuckAt text x n f ts = IsFirstPlace ts x n → (slice_get ts n ≡ None → (lexed text).tail ≡ tail.End) → StandsAt text (place_of text ts n) f → IsFault text f

stuck_at : (text : List ℕ) (ts : List Lexeme) (x : Fault) (n : ℕ) (f : ScriptFault) → IsText text → ts ≡ lexemes_of text → f.kind ≡ kind_of x → IsStuckAt text x n f ts
stuck_at text ts x n f is same kind = subst (IsStuckAt text x n f) (sym same) (λ first readable stands. stuck_fault text x n f is first readable stands kind)

some_none : (ts : List Lexeme) (n at : ℕ) → Some at ≡ option_map (λ t. t.at) (slice_get ts n) → slice_get ts n ≡ None → ⊥
some_none ts n at e none = (let no : Some at ≡ None = e ∙ ap (option_map (λ t. t.at)) none in cc)

none_of : (o : Option Lexeme) → None ≡ option_map (λ t. t.at) o → o ≡ None
none_of None e = refl
none_of (Some t) e = cc

pub stuck_some : (text : List ℕ) (ts : List Lexeme) (x : Fault) (n at : ℕ) (f : ScriptFault) → IsText text → ts ≡ lexemes_of text → IsFirstPlace ts x n → Some at ≡ option_map (λ t. t.at) (slice_get ts n) → StandsAt text at f → f.kind ≡ kind_of x → IsFault text f
stuck_some text ts x n at f is same first e stands kind =
    stuck_at text ts x n f is same kind first (λ none. absurd (some_none ts n at e none)) (subst (λ i. StandsAt text i f) (ap (λ o. unwrap_or o (length text)) e) stands)

pub stuck_none : (text : List ℕ) (ts : List Lexeme) (x : Fault) (n : ℕ) (f : ScriptFault) → IsText text → ts ≡ lexemes_of text → IsFirstPlace ts x n → None ≡ option_map (λ t. t.at) (slice_get ts n) → (lexed text).tail ≡ tail.End → StandsAt text (length text) f → f.kind ≡ kind_of x
    → IsFault text f
stuck_none text ts x n f is same first e here stands kind = stuck_at text ts x n f is same kind first (λ none. here) (subst (λ i. StandsAt text i f) (ap (λ o. unwrap_or o (length text)) e) stands)

pub stuck_bad : (text : List ℕ) (ts : List Lexeme) (x : Fault) (n : ℕ) (b : LexFault) (at : ℕ) (f : ScriptFault) → IsText text → ts ≡ lexemes_of text → IsFirstPlace ts x n → None ≡ option_map (λ t. t.at) (slice_get ts n) → (lexed text).tail ≡ tail.Bad b at → StandsAt text at f → f.kind ≡ lex_kind b
    → IsFault text f
stuck_bad text ts x n b at f is same first e here stands kind =
    unreadable_fault text b at f is here (subst (λ ts. Starts ts (length ts)) same (starts_all ts n (none_of (slice_get ts n) e) first.before)) stands kind

-- ---- the answer of the whole

-- the text's tokens, and where they end
pub record IsSeen (text : List ℕ) (s : Scanned) (ts : List Lexeme) : Type 0 where
  pub text_is : IsText text
  pub scanned : s ≡ lexed text
  pub lexemes_are : ts ≡ map (lexeme_of text) s.tokens

seen_tokens : (text : List ℕ) (s : Scanned) (ts : List Lexeme) → IsSeen text s ts → ts ≡ lexemes_of text
seen_tokens text s ts it = it.lexemes_are ∙ ap (λ s. map (lexeme_of text) s.tokens) it.scanned

pub parse_ok : (text : List ℕ) (s : Scanned) (ts : List Lexeme) (xs : List ItemTerm) (m : ℕ) → IsSeen text s ts → whole (suc (length ts)) 100 (slice_get ts) 0 ≡ Ok (xs, m) → s.tail ≡ tail.End → IsScriptText text xs
parse_ok text s ts xs m it read ends = record {
  text_is = it.text_is;
  readable = ap (λ s. s.tail) (sym it.scanned) ∙ ends;
  spells = subst (λ ts. Spells ts xs) (seen_tokens text s ts it) (found (suc (length ts)) ts xs m read);
}

pub parse_bad : (text : List ℕ) (s : Scanned) (ts : List Lexeme) (xs : List ItemTerm) (m : ℕ) (b : LexFault) (at : ℕ) (f : ScriptFault) → IsSeen text s ts → whole (suc (length ts)) 100 (slice_get ts) 0 ≡ Ok (xs, m) → s.tail ≡ tail.Bad b at → StandsAt text at f → f.kind ≡ lex_kind b
    → IsFault text f
parse_bad text s ts xs m b at f it read bad stands kind =
    let spells : Spells (lexemes_of text) xs = subst (λ ts. Spells ts xs) (seen_tokens text s ts it) (found (suc (length ts)) ts xs m read) in
    unreadable_fault text b at f it.text_is (ap (λ s. s.tail) (sym it.scanned) ∙ bad) (spells_starts (lexemes_of text) xs spells) stands kind
