-- What a printed text is.
use Rattle.std.specs.Prelude.{◌≡◌, ℕ, List}
use Rattle.nb_script.specs.declared.script.ScriptFault.{ScriptFault}
use Rattle.nb_script.specs.declared.script.ScriptKind.TheVariants.{NoMemory}
use Rattle.nb_script.specs.Grammar.{ItemTerm}
use Rattle.nb_script.specs.Bare.{script}
use Rattle.nb_script.specs.Parsing.{IsScriptText, IsFault}

-- The text is that of a script that is the same but for places, and of no other one, and is refused for want of memory alone.
pub record IsReadBack (text : List ℕ) (items : List ItemTerm) : Type 0 where
  pub again : List ItemTerm
  pub is_text : IsScriptText text again
  pub same : script again ≡ script items
  pub only : (other : List ItemTerm) → IsScriptText text other → other ≡ again
  pub refused : (f : ScriptFault) → IsFault text f → f.kind ≡ NoMemory
