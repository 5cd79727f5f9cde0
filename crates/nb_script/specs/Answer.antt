-- What a row of tokens is: a script, or one with a first token with which no script goes on.
use Rattle.std.specs.Prelude.{◌≡◌, ℕ, suc, ◌<◌, ◌↔◌, false, List, slice_get, Some}
use Rattle.nb_script.specs.declared.lexeme.Lexeme.{Lexeme}
use Rattle.nb_script.specs.declared.fault.Fault.{Fault}
use Rattle.nb_script.specs.declared.fault.Fault.TheVariants.{TooDeep}
use Rattle.nb_script.specs.Grammar.{ItemTerm}
use Rattle.nb_script.specs.Spelling.{Mark, lexemes, script_marks, IsScript}

-- The first k tokens are those of the script, the end of each counted as one.
abbrev pub Agrees : List Lexeme → ℕ → List ItemTerm → Type 0
Agrees tokens k s = (j : ℕ) → j < k → slice_get (lexemes (script_marks s)) j ≡ slice_get tokens j

-- None of the script's first k tokens is past the limits.
abbrev pub Keeps : ℕ → List ItemTerm → Type 0
Keeps k s = (j : ℕ) (x : Mark) → j < k → slice_get (script_marks s) j ≡ Some x → x.past ≡ false

-- a script that begins with the first k tokens
pub record Begins (tokens : List Lexeme) (k : ℕ) : Type 0 where
  pub whole : List ItemTerm
  pub grammatical : IsScript whole
  pub agrees : Agrees tokens k whole

-- a script that begins with the first k tokens, and keeps the limits so far
pub record Starts (tokens : List Lexeme) (k : ℕ) : Type 0 where
  pub whole : List ItemTerm
  pub grammatical : IsScript whole
  pub agrees : Agrees tokens k whole
  pub keeps : Keeps k whole

-- The first k tokens can be gone on with, and the next can't. It is too deep exactly where the grammar alone would take it.
pub record IsFirstPlace (tokens : List Lexeme) (f : Fault) (k : ℕ) : Type 0 where
  pub before : Starts tokens k
  pub stuck : Starts tokens (suc k) → ⊥
  pub which : (f ≡ TooDeep) ↔ Begins tokens (suc k)

-- The tokens are those of the script, which keeps the limits.
pub record Spells (tokens : List Lexeme) (s : List ItemTerm) : Type 0 where
  pub spelled : tokens ≡ lexemes (script_marks s)
  pub grammatical : IsScript s
  pub keeps : (j : ℕ) (x : Mark) → slice_get (script_marks s) j ≡ Some x → x.past ≡ false
