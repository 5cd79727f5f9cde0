-- The sample: a run over two empty stores, of the lines that a seed gives.
use Rattle.std.specs.Prelude.{◌≡◌, ℕ, zero, suc, List, [], ◌∷◌, ◌++◌, Option, Some, None, Ok}
use Rattle.nb_base.specs.Messages.{Message}
use Rattle.nb_cells.specs.Cells.{CellMap}
use Rattle.nb_core.specs.declared.history.History.{History}
use Rattle.nb_core.specs.declared.history.Opening.{Opening}
use Rattle.nb_endpoint.specs.Asked.{Asked}
use Rattle.nb_endpoint.specs.Configured.{AreSettings}
use Rattle.nb_endpoint.specs.Follows.{Begins, Follows, state_in}
use Rattle.nb_base.specs.Causes.{Rose}
use Rattle.nb_endpoint.specs.Prints.{PrintsText, PrintsNothing}
use Rattle.nb_endpoint.specs.Rows.{Shows}
use Rattle.nb_endpoint.specs.Scripts.{IsScript}
use Rattle.nb_endpoint.specs.declared.printing.Worked.{Worked}
use Rattle.nb_endpoint.specs.declared.status.Status.{Status}
use Rattle.nb_endpoint.specs.declared.status.Status.TheVariants.{Done, WriteFault, NoMemory}
use Rattle.nb_envelope.specs.Lines.{line_of}
use Rattle.nb_queue.specs.Maps as queue
use Rattle.nb_report.specs.Summary.{summary}
use Rattle.nb_sample.specs.Sample.{sample_line}
use Rattle.nb_sample.specs.Texts.{script, settings}
use Rattle.nb_store.specs.CellMaps as table
use Rattle.nb_words.specs.declared.words.Command.TheVariants.{Run}
use Rattle.nb_words.specs.declared.words.Words.{Words as Said}

-- what a run would be told by its words: ten seconds from moment 0 on, and more Takes than there can be
abbrev pub sample_words : ℕ → ℕ → Said
sample_words seed count = record { command = Run; workers = 1; at = Some 0; horizon = 10; turns = 18446744073709551615; seed = seed; count = count }

-- the messages of the lines from 1 to the count, in order
abbrev pub AreSampled : ℕ → ℕ → List Message → Type 0
AreSampled seed zero messages = messages ≡ []
AreSampled seed (suc n) messages =
    (first : List Message) × (last : Message) × (messages ≡ first ++ last ∷ []) × AreSampled seed n first × (line_of (sample_line seed (suc n)) ≡ Ok last)

-- what the sample asks for
pub record IsSample (seed count : ℕ) (a : Asked) : Type 0 where
  pub said_is : a.said ≡ sample_words seed count
  pub moment_is : a.moment ≡ 0
  pub script_is : IsScript script a.items
  pub settings_are : AreSettings settings a.items a.settings
  pub messages_are : AreSampled seed count a.messages

abbrev pub no_cells : CellMap
no_cells space key = None

-- the history of a run over empty stores that is done: it is drained, and has no Halt
pub record IsRun (a : Asked) (h : History) : Type 0 where
  pub tables_are : table.HasCells no_cells h.opening.tables
  pub post_is : queue.HasCells no_cells h.opening.post
  pub begins : Begins 1 a h
  pub follows : Follows a Done h
  pub shows : Shows a Done h

-- the summary of a history that is done, from this opening on
abbrev pub IsSummaryOf : Asked → ℕ → ℕ → List ℕ → Opening → List ℕ → Type 0
IsSummaryOf a seed count error opening text =
    (h : History) × (h.opening ≡ opening) × Begins 1 a h × Follows a Done h × Shows a Done h × (text ≡ summary seed count error h.events (state_in a h))

-- the summary of the sample's history
abbrev pub IsSummary : ℕ → ℕ → List ℕ → Type 0
IsSummary seed count text =
    (a : Asked) × IsSample seed count a × ((h : History) × IsRun a h × (text ≡ summary seed count a.settings.error h.events (state_in a h)))

-- what a sample prints: the summary, or a beginning of it where the sink failed
abbrev pub PrintsSample : ℕ → ℕ → Status → ℕ → Option (List ℕ) → Option (List ℕ) → Type 0
PrintsSample seed count Done n old new = (text : List ℕ) × IsSummary seed count text × PrintsText Done text n old new
PrintsSample seed count WriteFault n old new = (text : List ℕ) × IsSummary seed count text × PrintsText WriteFault text n old new
PrintsSample seed count NoMemory n old new = PrintsNothing n old new
PrintsSample seed count _ n old new = ⊥

-- how a sample ends
pub record SampleIs (seed count : ℕ) (x : Worked) (old new : Option (List ℕ)) (o0 o1 : ℕ) : Type 0 where
  pub prints : PrintsSample seed count x.status x.printed old new
  pub risen : x.status ≡ WriteFault → Rose o0 o1
