-- What the top call promises where it hands back no history: why nothing was begun, or that the words ask for a sample.
use Rattle.std.specs.Prelude.{◌≡◌, ℕ, List, Option, Some, None}
use Rattle.nb_base.specs.declared.sink.Sink as sink
use Rattle.nb_base.specs.declared.source.Source as source
use Rattle.nb_cells.specs.declared.cells.Cells.{Ghosts}
use Rattle.nb_endpoint.specs.Asked.{Asked, IsAsked, IsRefused}
use Rattle.nb_endpoint.specs.Handed.{Handed, flows}
use Rattle.nb_endpoint.specs.Left.{RefusesBase, RefusesPost}
use Rattle.nb_endpoint.specs.Prints.{PrintsNothing}
use Rattle.nb_endpoint.specs.Sampling.{PrintsSample}
use Rattle.nb_endpoint.specs.Served.{served_words, AskFor}
use Rattle.nb_endpoint.specs.Stores.{IsRead, Told}
use Rattle.nb_endpoint.specs.declared.status.Status.{Status}
use Rattle.nb_endpoint.specs.declared.status.Status.TheVariants.{Done, Words, WriteFault, BaseFault, PostFault, NoMemory, Damaged}
use Rattle.nb_eval.specs.Meanings.{meaning_of}
use Rattle.nb_hub.specs.Desks.{Started}
use Rattle.nb_words.specs.Cli.{words_of}
use Rattle.nb_words.specs.declared.words.Command.{Command}
use Rattle.nb_words.specs.declared.words.Command.TheVariants.{Run, Show, Retry, Purge, Sample}
use Rattle.nb_words.specs.declared.words.Words.{Words as Said}

-- both stores told these maps when they were handed in, and are honest still
pub record BothTold {S O P D : Type 0} (p : Ghosts P) (d : Ghosts D) (x : Handed S O P D) (start : Started) : Type 0 where
  pub base : Told d x.base.before x.base.after start.base
  pub post : Told p x.post.before x.post.after start.post

-- damage is of the least cell at fault, the base first
abbrev pub IsDamage : Asked → Status → Started → Type 0
IsDamage a status start = RefusesBase (meaning_of a.items) start.base status × RefusesPost start.post status

-- of the words and the sources, or of what is asked for and the stores
abbrev pub Why : {S O P D : Type 0} → source.Ghosts S → Ghosts P → Ghosts D → Handed S O P D → Status → Type 0
Why s p d x Words = words_of x.words ≡ None
Why s p d x Done = AskFor Sample x.words
Why s p d x WriteFault = AskFor Sample x.words
Why s p d x NoMemory = Unit {0}
Why s p d x BaseFault = (a : Asked) × IsAsked x.words x.clock (flows s x) a
Why s p d x PostFault = (a : Asked) × IsAsked x.words x.clock (flows s x) a
Why s p d x (Damaged store space key) =
    (a : Asked) × IsAsked x.words x.clock (flows s x) a × ((start : Started) → BothTold p d x start → IsDamage a (Damaged store space key) start)
Why s p d x status = (said : Said) × (served_words x.words ≡ Some said) × IsRefused said.command (flows s x) status

-- a sample prints its summary, and else nothing is printed
abbrev pub PrintsAlone : Command → Said → Status → ℕ → Option (List ℕ) → Option (List ℕ) → Type 0
PrintsAlone Run said status n old new = PrintsNothing n old new
PrintsAlone Show said status n old new = PrintsNothing n old new
PrintsAlone Retry said status n old new = PrintsNothing n old new
PrintsAlone Purge said status n old new = PrintsNothing n old new
PrintsAlone Sample said status n old new = PrintsSample said.seed said.count status n old new

abbrev pub PrintsFor : Option Said → Status → ℕ → Option (List ℕ) → Option (List ℕ) → Type 0
PrintsFor None status n old new = PrintsNothing n old new
PrintsFor (Some said) status n old new = PrintsAlone said.command said status n old new

pub record Unbegun {S O P D : Type 0} (s : source.Ghosts S) (o : sink.Ghosts O) (p : Ghosts P) (d : Ghosts D) (x : Handed S O P D) : Type 0 where
  -- Status: it says why
  pub shows : Why s p d x x.status
  -- Stores: they hold what they held, and have no new image
  pub base_kept : IsRead d x.base.before x.base.after
  pub post_kept : IsRead p x.post.before x.post.after
  -- Output: the summary of a sample, or nothing
  pub prints : PrintsFor (words_of x.words) x.status x.printed (o.held x.out.before) (o.held x.out.after)
