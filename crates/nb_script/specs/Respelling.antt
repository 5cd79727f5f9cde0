-- What the printed tokens are, wherever they stand.
use Rattle.std.specs.Prelude.{◌≡◌, ℕ, suc, List, [], ◌∷◌}
use Rattle.nb_script.specs.declared.lexeme.Content.{Content}
use Rattle.nb_script.specs.declared.lexeme.Lexeme.{Lexeme}
use Rattle.nb_script.specs.Grammar.{ItemTerm}
use Rattle.nb_script.specs.Spelling.{lexeme}
use Rattle.nb_script.specs.Printing.{all_of, item}
use Rattle.nb_script.specs.Bare.{script}
use Rattle.nb_script.specs.Answer.{Spells}

-- tokens with their places, by their numbers
abbrev pub placed : (ℕ → ℕ) → ℕ → List Content → List Lexeme
placed f k [] = []
placed f k (x ∷ xs) = lexeme x (f k) ∷ placed f (suc k) xs

-- Where the tokens that are printed of a script stand at these places, they are those of a script that is the same but for places.
pub record IsRespelled (f : ℕ → ℕ) (items : List ItemTerm) : Type 0 where
  pub again : List ItemTerm
  pub spells : Spells (placed f 0 (all_of item items)) again
  pub same : script again ≡ script items
