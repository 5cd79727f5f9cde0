-- How the printing of a text ends.
use Rattle.std.specs.Prelude.{◌≡◌, ℕ, Option, List}
use Rattle.nb_base.specs.Causes.{Rose}
use Rattle.nb_core.specs.declared.state.State.{State}
use Rattle.nb_endpoint.specs.Prints.{PrintsText}
use Rattle.nb_report.specs.Reports.{report}
use Rattle.nb_endpoint.specs.declared.printing.Worked.{Worked}
use Rattle.nb_endpoint.specs.declared.status.Status.{Status}
use Rattle.nb_endpoint.specs.declared.status.Status.TheVariants.{Done, NotDrained, WriteFault, NoMemory}

-- a text is printed
abbrev pub EndsAs : Status → Type 0
EndsAs Done = Unit {0}
EndsAs (NotDrained takes) = Unit {0}
EndsAs _ = ⊥

-- as the work ended, or the sink failed, or there was no memory
abbrev pub Stays : Status → Status → ℕ → ℕ → Type 0
Stays ended WriteFault o0 o1 = Rose o0 o1
Stays ended NoMemory o0 o1 = Unit {0}
Stays ended status o0 o1 = status ≡ ended

pub record TextIs (ended : Status) (text : List ℕ) (x : Worked) (old new : Option (List ℕ)) (o0 o1 : ℕ) : Type 0 where
  pub prints : PrintsText x.status text x.printed old new
  pub stays : Stays ended x.status o0 o1

-- the report of a state is printed
abbrev pub PrintIs : Status → State → Worked → Option (List ℕ) → Option (List ℕ) → ℕ → ℕ → Type 0
PrintIs ended s x old new o0 o1 = TextIs ended (report s) x old new o0 o1
