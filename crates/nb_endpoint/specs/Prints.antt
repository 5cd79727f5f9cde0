-- What is printed.
use Rattle.std.specs.Prelude.{◌≡◌, ℕ, ◌<◌, List, length, take, Option}
use Rattle.std.specs.Io.KnownBytes.{Appends}
use Rattle.nb_core.specs.declared.state.State.{State}
use Rattle.nb_endpoint.specs.declared.status.Status.{Status}
use Rattle.nb_endpoint.specs.declared.status.Status.TheVariants.{Done, NotDrained, WriteFault}
use Rattle.nb_report.specs.Reports.{report}

-- all of a text is printed, or a beginning of it, or nothing; n bytes are
abbrev pub PrintsText : Status → List ℕ → ℕ → Option (List ℕ) → Option (List ℕ) → Type 0
PrintsText Done text n old new = (n ≡ length text) × Appends old new text
PrintsText (NotDrained takes) text n old new = (n ≡ length text) × Appends old new text
PrintsText WriteFault text n old new = (n < length text) × Appends old new (take n text)
PrintsText _ text n old new = (n ≡ 0) × (new ≡ old)

-- the report of a state
abbrev pub Prints : Status → State → ℕ → Option (List ℕ) → Option (List ℕ) → Type 0
Prints status s n old new = PrintsText status (report s) n old new

abbrev pub PrintsNothing : ℕ → Option (List ℕ) → Option (List ℕ) → Type 0
PrintsNothing n old new = (n ≡ 0) × (new ≡ old)
