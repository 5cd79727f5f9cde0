-- Why a script isn't checked.
use Rattle.std.specs.Prelude.{◌≡◌, ◌⊎◌, ℕ, List, take, Some}
use Rattle.nb_script.specs.declared.tree.Script.{Script}
use Rattle.nb_script.specs.Lexing.{line_of, column_of}
use Rattle.nb_script.specs.Scripts.{items_of, text_of}
use Rattle.nb_check.specs.Breaches.{first_of}
use Rattle.nb_check.specs.Rules.{script_faults}
use Rattle.nb_check.specs.declared.breach.Breach.{Breach}
use Rattle.nb_check.specs.declared.breach.CheckKind.TheVariants.{NoMemory}
use Rattle.nb_check.specs.declared.fault.CheckFault.{CheckFault}

-- where there was no memory
abbrev pub nowhere : CheckFault
nowhere = record { line = 0; column = 0; kind = NoMemory }

-- the fault names the rule that is broken, and the line and the column of its place
pub record StandsAt (text : List ℕ) (b : Breach) (f : CheckFault) : Type 0 where
  pub line : f.line ≡ line_of (take b.at text)
  pub column : f.column ≡ column_of (take b.at text)
  pub kind : f.kind ≡ b.rule

-- the fault is the breach that no other is before, or there was no memory
abbrev pub IsCheckFault : Script → CheckFault → Type 0
IsCheckFault s f = (f ≡ nowhere) ⊎ ((b : Breach) × (first_of (script_faults (items_of s)) ≡ Some b) × StandsAt (text_of s) b f)
