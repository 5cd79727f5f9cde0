-- Why a valid run is done, and the headline of what was done.
use Rattle.std.proofs.Common.{◌≡◌, ◌≢◌, ◌⊎◌, ⊎_elim, ℕ, List, Option, Some, None, refl, sym, ◌∙◌, subst}
use Rattle.nb_base.specs.Causes.{Rose}
use Rattle.nb_base.specs.declared.entry.Which.TheVariants.{Base, Post}
use Rattle.nb_base.specs.declared.sink.Sink as sink
use Rattle.nb_base.specs.declared.source.Source as source
use Rattle.nb_cells.specs.declared.cells.Cells.{Ghosts}
use Rattle.nb_core.specs.declared.history.History.{History}
use Rattle.nb_endpoint.specs.Asked.{Asked, IsAsked, LinesAre}
use Rattle.nb_endpoint.specs.Complete.{IsValid, AreCellsValid, IsStill, HasNumbers, IsFine}
use Rattle.nb_endpoint.specs.Handed.{Handed, flows}
use Rattle.nb_endpoint.specs.Headline.{Headline, IsApart, IsDone, counts_in}
use Rattle.nb_endpoint.specs.Rows.{Counts, Risen, Shows, IsSpentIn}
use Rattle.nb_endpoint.specs.Served.{served_words, AskFor}
use Rattle.nb_endpoint.specs.Sources.{Flow, IsRead, most_input}
use Rattle.nb_endpoint.specs.Unbegun.{BothTold, Why}
use Rattle.nb_endpoint.specs.declared.status.Input.TheVariants as origin
use Rattle.nb_endpoint.specs.declared.status.Status.{Status}
use Rattle.nb_endpoint.specs.declared.status.Status.TheVariants.{Done, NotDrained, Words, Script, Settings, Input, ReadFault, WriteFault, BaseFault, PostFault, NoMemory, Damaged, Spent}
use Rattle.nb_hub.specs.Desks.{Started}
use Rattle.nb_words.specs.declared.words.Command.{Command}
use Rattle.nb_words.specs.declared.words.Command.TheVariants.{Run, Show, Retry, Purge, Sample}
use Rattle.nb_words.specs.declared.words.Words.{Words as Said}

some_is : {A : Type 0} {x y : A} → Some x ≡ Some y → x ≡ y
some_is e = cc

-- the bytes of the lines were read
lines_read : (command : Command) (l : Flow) (o : Option (List ℕ)) (bytes : List ℕ) → command ≡ Run → o ≡ Some bytes → LinesAre command l o → IsRead most_input l bytes
lines_read Run l o bytes run is x = subst (λ (b : List ℕ). IsRead most_input l b) (some_is (sym x.1 ∙ is)) x.2
lines_read Show l o bytes run is x = absurd cc
lines_read Retry l o bytes run is x = absurd cc
lines_read Purge l o bytes run is x = absurd cc
lines_read Sample l o bytes run is x = absurd cc

module _ {S O P D : Type 0} (s : source.Ghosts S) (o : sink.Ghosts O) (p : Ghosts P) (d : Ghosts D) (crew : Said → ℕ) (x : Handed S O P D) (start : Started) (told : BothTold p d x start)
    (valid : IsValid x.words (flows s x)) (cells : AreCellsValid x.words x.clock (flows s x) start) (still : IsStill (flows s x) (counts_in o p d x)) where
  -- nothing was begun
  begun_not : (status : Status) → Why s p d x status → Risen status (counts_in o p d x) → IsFine status
  begun_not Done why risen = tt
  begun_not (NotDrained takes) why risen = absurd why.2
  begun_not Words why risen = valid.words_are why
  begun_not (Script line column kind) why risen = valid.script_is why.2.0.script line column kind why.2.1.script why.2.2
  begun_not (Settings key kind) why risen =
      valid.settings_are why.2.2.0 why.2.0.settings (record { key = key; kind = kind }) (why.2.0.script, why.2.1.script, why.2.2.1) why.2.1.settings why.2.2.2
  begun_not (Input line kind) why risen =
      let k = why.2.2 in
      valid.lines_are k.4.0 (record { line = line; kind = kind }) (lines_read why.0.command (flows s x).lines why.2.0.lines k.4.0 k.3 k.4.1 why.2.1.lines) k.4.2
  begun_not (ReadFault origin.Script) why risen = still.script why.2
  begun_not (ReadFault origin.Settings) why risen = still.settings why.2
  begun_not (ReadFault origin.Lines) why risen = still.lines why.2.1
  begun_not WriteFault why risen = still.out risen
  begun_not BaseFault why risen = still.base risen
  begun_not PostFault why risen = still.post risen
  begun_not NoMemory why risen = tt
  begun_not (Damaged Base space key) why risen = ⊎_elim (λ f. cells.base space key f) (λ f. cells.sagas why.0 space key why.1 f) (why.2 start told).0
  begun_not (Damaged Post space key) why risen = cells.post space key (why.2 start told).1
  begun_not Spent why risen = absurd why.2

  -- a hub was started
  begun : (status : Status) (a : Asked) (h : History) → Shows a status h → Risen status (counts_in o p d x) → (IsSpentIn a h → ⊥) → IsFine status
  begun Done a h shows risen numbers = tt
  begun (NotDrained takes) a h shows risen numbers = tt
  begun Words a h shows risen numbers = shows
  begun (Script line column kind) a h shows risen numbers = shows
  begun (Settings key kind) a h shows risen numbers = shows
  begun (Input line kind) a h shows risen numbers = shows
  begun (ReadFault source) a h shows risen numbers = shows
  begun WriteFault a h shows risen numbers = still.out risen
  begun BaseFault a h shows risen numbers = still.base risen
  begun PostFault a h shows risen numbers = still.post risen
  begun NoMemory a h shows risen numbers = tt
  begun (Damaged store space key) a h shows risen numbers = shows
  begun Spent a h shows risen numbers = numbers shows.1

  fine : (history : Option History) → IsDone s o p d crew x history → Risen x.status (counts_in o p d x) → HasNumbers x.words x.clock (flows s x) history → IsFine x.status
  fine None done risen numbers = begun_not x.status done.shows risen
  fine (Some h) done risen numbers = begun x.status done.0 h done.1.shows risen (numbers done.0 done.1.asks)

pub headline : {S O P D : Type 0} (s : source.Ghosts S) (o : sink.Ghosts O) (p : Ghosts P) (d : Ghosts D) (crew : Said → ℕ) (x : Handed S O P D) → IsDone s o p d crew x x.history
    → Risen x.status (counts_in o p d x) → (¬ (AskFor Run x.words) → x.lines.after ≡ x.lines.before) → (served_words x.words ≡ None → IsApart x) → Headline s o p d crew x
headline s o p d crew x done risen unread apart = record {
  done = done;
  risen = risen;
  unread = unread;
  apart = apart;
  complete = λ start told valid cells still numbers. fine s o p d crew x start told valid cells still x.history done risen numbers;
}
