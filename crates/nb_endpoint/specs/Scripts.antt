-- What is read of a script.
use Rattle.std.specs.Prelude.{◌≡◌, ◌≢◌, ℕ, List, [], Some, Result, Ok, Err}
use Rattle.nb_check.specs.Breaches.{first_of}
use Rattle.nb_check.specs.Faults as check
use Rattle.nb_check.specs.Rules.{script_faults}
use Rattle.nb_check.specs.declared.breach.Breach.{Breach}
use Rattle.nb_check.specs.declared.breach.CheckKind.{CheckKind}
use Rattle.nb_check.specs.declared.breach.CheckKind.TheVariants as rule
use Rattle.nb_check.specs.declared.fault.CheckFault.{CheckFault}
use Rattle.nb_endpoint.specs.declared.status.Mistake.{Mistake}
use Rattle.nb_endpoint.specs.declared.status.Mistake.TheVariants.{Syntax, Rule}
use Rattle.nb_endpoint.specs.declared.status.Status.{Status}
use Rattle.nb_endpoint.specs.declared.status.Status.TheVariants.{Script, NoMemory}
use Rattle.nb_script.specs.Grammar.{ItemTerm}
use Rattle.nb_script.specs.Parsing.{IsScriptText, IsFault}
use Rattle.nb_script.specs.Tree.{script}
use Rattle.nb_script.specs.declared.item.Item.{Item}
use Rattle.nb_script.specs.declared.script.ScriptFault.{ScriptFault}
use Rattle.nb_script.specs.declared.script.ScriptKind.{ScriptKind}
use Rattle.nb_script.specs.declared.script.ScriptKind.TheVariants as syntax

-- the bytes are a well-typed script with these items
pub record IsScript (bytes : List ℕ) (items : List ItemTerm) : Type 0 where
  pub text : IsScriptText bytes items
  pub rules : script_faults items ≡ []

-- the script whose items these are in memory
abbrev pub IsScriptOf : List ℕ → List Item → Type 0
IsScriptOf bytes rows = IsScript bytes (script rows)

-- the first place at which the bytes aren't a well-typed script: at which they are no script, or break a rule. Want of
-- memory is no mistake.
abbrev pub IsMistake : List ℕ → ℕ → ℕ → Mistake → Type 0
IsMistake bytes line column (Syntax kind) = (kind ≢ syntax.NoMemory) × IsFault bytes (record { line = line; column = column; kind = kind })
IsMistake bytes line column (Rule kind) =
    (kind ≢ rule.NoMemory) × (items : List ItemTerm) × (b : Breach) × IsScriptText bytes items × (first_of (script_faults items) ≡ Some b)
    × check.StandsAt bytes b (record { line = line; column = column; kind = kind })

abbrev pub Checks : List ℕ → Result (List Item) Status → Type 0
Checks bytes (Ok rows) = IsScriptOf bytes rows
Checks bytes (Err (Script line column kind)) = IsMistake bytes line column kind
Checks bytes (Err NoMemory) = Unit {0}
Checks bytes (Err _) = ⊥

-- ---- the statuses

abbrev pub at_text : ScriptFault → ScriptKind → Status
at_text f syntax.NoMemory = NoMemory
at_text f kind = Script f.line f.column (Syntax kind)

abbrev pub of_text : ScriptFault → Status
of_text f = at_text f f.kind

abbrev pub at_rule : CheckFault → CheckKind → Status
at_rule f rule.NoMemory = NoMemory
at_rule f kind = Script f.line f.column (Rule kind)

abbrev pub of_rule : CheckFault → Status
of_rule f = at_rule f f.kind
