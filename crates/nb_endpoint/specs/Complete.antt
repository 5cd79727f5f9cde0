-- When all is done: where all that is handed in is right, no count rises, and no number that is needed is spent.
use Rattle.std.specs.Prelude.{◌≡◌, ◌≢◌, ℕ, List, Option, Some, None, Err, IfSome}
use Rattle.nb_base.specs.Causes.{Rose}
use Rattle.nb_base.specs.declared.source.Source as source
use Rattle.nb_core.specs.declared.history.History.{History}
use Rattle.nb_endpoint.specs.Asked.{Asked, IsAsked, ScriptIs}
use Rattle.nb_endpoint.specs.Handed.{Handed, flows}
use Rattle.nb_endpoint.specs.Rows.{Counts, IsSpentIn}
use Rattle.nb_endpoint.specs.Scripts.{IsMistake}
use Rattle.nb_endpoint.specs.Sources.{Flows, IsRead, HasFailed, most_text, most_input}
use Rattle.nb_endpoint.specs.declared.status.Mistake.{Mistake}
use Rattle.nb_endpoint.specs.declared.status.Status.{Status}
use Rattle.nb_endpoint.specs.declared.status.Status.TheVariants.{Done, NotDrained, NoMemory}
use Rattle.nb_envelope.specs.Inputs.{messages_of}
use Rattle.nb_envelope.specs.declared.input.InputFault.{InputFault}
use Rattle.nb_eval.specs.Meanings.{meaning_of}
use Rattle.nb_check.specs.Sends.{sends}
use Rattle.nb_hub.specs.Desks.{Started}
use Rattle.nb_hub.specs.Starting.{IsMisfit}
use Rattle.nb_queue.specs.Damage.{IsLeastDamage}
use Rattle.nb_script.specs.Grammar.{ItemTerm}
use Rattle.nb_settings.specs.Files.{first}
use Rattle.nb_settings.specs.Missing.{faults_for}
use Rattle.nb_settings.specs.declared.refusal.SettingsFault.{SettingsFault}
use Rattle.nb_store.specs.Scanning.{IsLeastFault}
use Rattle.nb_words.specs.Cli.{words_of}

-- the words, the script, the settings and the lines are valid
pub record IsValid (words : List (List ℕ)) (f : Flows) : Type 0 where
  pub words_are : words_of words ≢ None
  pub script_is : (bytes : List ℕ) (line column : ℕ) (kind : Mistake) → IsRead most_text f.script bytes → IsMistake bytes line column kind → ⊥
  pub settings_are : (items : List ItemTerm) (bytes : List ℕ) (fault : SettingsFault) → ScriptIs f.script items → IsRead most_text f.settings bytes
      → first (faults_for bytes (sends items)) ≢ Some fault
  pub lines_are : (bytes : List ℕ) (fault : InputFault) → IsRead most_input f.lines bytes → messages_of bytes ≢ Err fault

-- no cell of the two maps is at fault, and each saga fits the script
pub record AreCellsValid (words : List (List ℕ)) (clock : Option ℕ) (f : Flows) (start : Started) : Type 0 where
  pub base : (space : ℕ) (key : List ℕ) → IsLeastFault start.base space key → ⊥
  pub sagas : (a : Asked) (space : ℕ) (key : List ℕ) → IsAsked words clock f a → IsMisfit (meaning_of a.items) start.base space key → ⊥
  pub post : (space : ℕ) (key : List ℕ) → IsLeastDamage start.post space key → ⊥

-- no count of faults rose
pub record IsStill (f : Flows) (c : Counts) : Type 0 where
  pub script : ¬ (HasFailed f.script)
  pub settings : ¬ (HasFailed f.settings)
  pub lines : ¬ (HasFailed f.lines)
  pub base : ¬ (Rose c.base_before c.base_after)
  pub post : ¬ (Rose c.post_before c.post_after)
  pub out : ¬ (Rose c.out_before c.out_after)

-- no number that is needed stands at its end
abbrev pub HasNumbers : List (List ℕ) → Option ℕ → Flows → Option History → Type 0
HasNumbers words clock f history = IfSome history (λ h. (a : Asked) → IsAsked words clock f a → IsSpentIn a h → ⊥)

abbrev pub IsFine : Status → Type 0
IsFine Done = Unit {0}
IsFine (NotDrained takes) = Unit {0}
IsFine NoMemory = Unit {0}
IsFine _ = ⊥

-- all is done as far as the Takes go, unless memory runs out
abbrev pub IsComplete : {S O P D : Type 0} → source.Ghosts S → Handed S O P D → Counts → Started → Type 0
IsComplete s x counts start =
    IsValid x.words (flows s x) → AreCellsValid x.words x.clock (flows s x) start → IsStill (flows s x) counts
    → HasNumbers x.words x.clock (flows s x) x.history → IsFine x.status
