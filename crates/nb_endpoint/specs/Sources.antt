-- What is read of the sources.
use Rattle.std.specs.Prelude.{◌≡◌, ℕ, List, Option, Result, Ok, Err}
use Rattle.nb_base.specs.Causes.{Rose}
use Rattle.nb_base.specs.Takes.{TakesAll}
use Rattle.nb_base.specs.declared.source.Source.{Ghosts}
use Rattle.nb_endpoint.specs.declared.status.Input.{Input}
use Rattle.nb_endpoint.specs.declared.status.Status.{Status}
use Rattle.nb_endpoint.specs.declared.status.Status.TheVariants.{ReadFault, NoMemory}

-- the most bytes of a script, and of settings
abbrev pub most_text : ℕ
most_text = 1048576

-- the most bytes of an input of lines
abbrev pub most_input : ℕ
most_input = 16777216

-- what was left of a source and its count of faults, before and after
pub record Flow : Type 0 where
  pub before : Option (List ℕ)
  pub after : Option (List ℕ)
  pub faults_before : ℕ
  pub faults_after : ℕ

abbrev pub flow : {S : Type 0} → Ghosts S → S → S → Flow
flow g old new = record { before = g.left old; after = g.left new; faults_before = g.count old; faults_after = g.count new }

-- those of the three sources
pub record Flows : Type 0 where
  pub script : Flow
  pub settings : Flow
  pub lines : Flow

-- these bytes were taken: all, or the first past the limit too
abbrev pub IsRead : ℕ → Flow → List ℕ → Type 0
IsRead most f bytes = TakesAll most f.before f.after bytes

abbrev pub HasFailed : Flow → Type 0
HasFailed f = Rose f.faults_before f.faults_after

abbrev pub Reads : Input → ℕ → Flow → Result (List ℕ) Status → Type 0
Reads which most f (Ok bytes) = IsRead most f bytes
Reads which most f (Err (ReadFault source)) = (source ≡ which) × HasFailed f
Reads which most f (Err NoMemory) = Unit {0}
Reads which most f (Err _) = ⊥
