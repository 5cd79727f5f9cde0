-- The headline: what the top call promises of what is handed in and of what it hands back.
use Rattle.std.specs.Prelude.{◌≡◌, ℕ, Option, Some, None}
use Rattle.nb_base.specs.declared.sink.Sink as sink
use Rattle.nb_base.specs.declared.source.Source as source
use Rattle.nb_cells.specs.declared.cells.Cells.{Ghosts}
use Rattle.nb_core.specs.Outcome.{Outcome, AreSent}
use Rattle.nb_core.specs.declared.history.History.{History}
use Rattle.nb_endpoint.specs.Asked.{Asked, IsAsked}
use Rattle.nb_endpoint.specs.Complete.{IsComplete}
use Rattle.nb_endpoint.specs.Follows.{Begins, Follows, state_in, until_of}
use Rattle.nb_endpoint.specs.Handed.{Handed, flows}
use Rattle.nb_endpoint.specs.Left.{AreLeft}
use Rattle.nb_endpoint.specs.Prints.{Prints}
use Rattle.nb_endpoint.specs.Rows.{Counts, Risen, Shows}
use Rattle.nb_endpoint.specs.Served.{served_words, AskFor}
use Rattle.nb_endpoint.specs.Stores.{TellsOne}
use Rattle.nb_endpoint.specs.Unbegun.{Unbegun, BothTold}
use Rattle.nb_endpoint.specs.declared.status.Status.TheVariants.{Done}
use Rattle.nb_hub.specs.Desks.{Started}
use Rattle.nb_words.specs.declared.words.Command.TheVariants.{Run}
use Rattle.nb_words.specs.declared.words.Words.{Words as Said}

-- both stores tell these maps when they are handed in, and have no other image
pub record BothTell {S O P D : Type 0} (p : Ghosts P) (d : Ghosts D) (x : Handed S O P D) (start : Started) : Type 0 where
  pub base : TellsOne d x.base.before start.base
  pub post : TellsOne p x.post.before start.post

-- With a history:
pub record Promises {S O P D : Type 0} (s : source.Ghosts S) (o : sink.Ghosts O) (p : Ghosts P) (d : Ghosts D) (crew : Said → ℕ)
    (x : Handed S O P D) (a : Asked) (h : History) : Type 0 where
  -- this is what the words, the clock, the script, the settings and the lines ask for
  pub asks : IsAsked x.words x.clock (flows s x) a
  -- Opening. The history is legal for the script and the settings that were read and within the Takes that the words
  -- allow; it opens at the moment of the words or of the clock, with so many workers.
  pub opens : Begins (crew a.said) a h
  -- Events. They are those of the command.
  pub acts : Follows a x.status h
  -- Stores. The history opens with that for which their maps stand, and they hold what its state does.
  pub leaves : (start : Started) → BothTell p d x start → AreLeft p d start a h x.post.after x.base.after
  -- Outcome. The sagas, the rows and the commits of the state are those of handling each committed message once,
  -- serially, in commit order; every message is placed, in error only when that was earned, and what was recorded is
  -- sent under its id before it is marked.
  pub comes : Outcome opens.legal.run
  -- With a run that is done every record is sent that it committed, and so is each of the opening whose id had at the
  -- opening an entry in the own queue, or one delayed there and due at most until then.
  pub sends : a.said.command ≡ Run → x.status ≡ Done → AreSent opens.legal.run (until_of a h)
  -- Output. The report of the state, or a beginning of it, or nothing.
  pub prints : Prints x.status (state_in a h) x.printed (o.held x.out.before) (o.held x.out.after)
  -- Status. The history shows it.
  pub shows : Shows a x.status h

abbrev pub IsDone : {S O P D : Type 0} → source.Ghosts S → sink.Ghosts O → Ghosts P → Ghosts D → (Said → ℕ) → Handed S O P D → Option History → Type 0
IsDone s o p d crew x None = Unbegun s o p d x
IsDone s o p d crew x (Some h) = (a : Asked) × Promises s o p d crew x a h

-- no source is read, and neither store is called
pub record IsApart {S O P D : Type 0} (x : Handed S O P D) : Type 0 where
  pub script : x.script.after ≡ x.script.before
  pub settings : x.settings.after ≡ x.settings.before
  pub lines : x.lines.after ≡ x.lines.before
  pub base : x.base.after ≡ x.base.before
  pub post : x.post.after ≡ x.post.before

-- the counts of faults of the two stores and of the sink
abbrev pub counts_in : {S O P D : Type 0} → sink.Ghosts O → Ghosts P → Ghosts D → Handed S O P D → Counts
counts_in o p d x = record {
  base_before = d.count x.base.before;
  base_after = d.count x.base.after;
  post_before = p.count x.post.before;
  post_after = p.count x.post.after;
  out_before = o.count x.out.before;
  out_after = o.count x.out.after;
}

pub record Headline {S O P D : Type 0} (s : source.Ghosts S) (o : sink.Ghosts O) (p : Ghosts P) (d : Ghosts D) (crew : Said → ℕ) (x : Handed S O P D) : Type 0 where
  -- what was asked for is done as far as the status says, or nothing was begun
  pub done : IsDone s o p d crew x x.history
  -- a fault of a store or of the sink comes only where its count rose
  pub risen : Risen x.status (counts_in o p d x)
  -- the lines are read for a run alone
  pub unread : ¬ (AskFor Run x.words) → x.lines.after ≡ x.lines.before
  -- where the words say nothing, or ask for a sample
  pub apart : served_words x.words ≡ None → IsApart x
  -- where all is right that is handed in
  pub complete : (start : Started) → BothTold p d x start → IsComplete s x (counts_in o p d x) start
