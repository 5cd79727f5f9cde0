-- Whatever stood in the own queue or was delayed there is there, was handled or given up, or is in error.
use Rattle.std.specs.Prelude.{◌≡◌, ◌⊎◌, ℕ, List, [], ◌∷◌, Some, None}
use Rattle.std.specs.FinMap as map
use Rattle.nb_base.specs.Orders.{ByNumber}
use Rattle.nb_base.specs.declared.entry.OutboxRow.{OutboxRow}
use Rattle.nb_base.specs.declared.settings.Settings.{Settings}
use Rattle.nb_base.specs.declared.tables.Discard.{Discard}
use Rattle.nb_base.specs.declared.tables.Queued.{Queued}
use Rattle.nb_headers.specs.Reads.{id_of, failed_queue}
use Rattle.nb_core.specs.History.{Run, ends, goes, commits, discards}
use Rattle.nb_core.specs.Serve.{HandledAt}
use Rattle.nb_core.specs.State.{State, Constants, recorded}
use Rattle.nb_core.specs.Step.{Event}

-- an entry with this id in the own queue, delayed or not
pub record InOwn (settings : Settings) (entries : ByNumber Queued) (id : List ℕ) : Type 0 where
  pub number : ℕ
  pub it : Queued
  pub there : map.get entries number ≡ Some it
  pub own : it.queue ≡ settings.endpoint
  pub id_is : id_of it.envelope ≡ id

abbrev pub IsInOwn : Constants → State → List ℕ → Type 0
IsInOwn c s id = InOwn c.settings s.post.entries id

-- an entry with this id that failed here stands in the error queue, and wasn't put back
pub record InError (settings : Settings) (entries : ByNumber Queued) (back : ByNumber (Unit {0})) (id : List ℕ) : Type 0 where
  pub number : ℕ
  pub it : Queued
  pub there : map.get entries number ≡ Some it
  pub queue : it.queue ≡ settings.error
  pub stands : it.due ≡ None
  pub from : failed_queue it.envelope ≡ settings.endpoint
  pub kept : map.get back number ≡ None
  pub id_is : id_of it.envelope ≡ id

abbrev pub IsInError : Constants → State → List ℕ → Type 0
IsInError c s id = InError c.settings s.post.entries s.back id

-- at some position of the run an entry with this id is in the own queue, delayed or not
abbrev pub WasInOwn : {c : Constants} {s s' : State} {es : List Event} → Run c s es s' → List ℕ → Type 0
WasInOwn {c = c} {s = s} ends id = IsInOwn c s id
WasInOwn {c = c} {s = s} (goes first rest) id = IsInOwn c s id ⊎ WasInOwn rest id

abbrev pub IsRecorded : State → List ℕ → Type 0
IsRecorded s id = (r : OutboxRow) × (recorded s id ≡ Some r)

-- the id is that of one of these handled messages
abbrev pub IsHandled : List ℕ → List HandledAt → Type 0
IsHandled id [] = ⊥
IsHandled id (h ∷ hs) = (id_of h.envelope ≡ id) ⊎ IsHandled id hs

-- or of one of these that were given up
abbrev pub IsDiscarded : List ℕ → List Discard → Type 0
IsDiscarded id [] = ⊥
IsDiscarded id (d ∷ ds) = (d.id ≡ id) ⊎ IsDiscarded id ds

-- where the message with this id is at the end of the run
pub data Place {c : Constants} {s s' : State} {es : List Event} (run : Run c s es s') (id : List ℕ) : Type 0 where
  in_own : IsInOwn c s' id → Place run id
  handled : IsHandled id (commits run) → Place run id
  recorded_before : IsRecorded s id → Place run id
  discarded : IsDiscarded id (discards run) → Place run id
  in_error : IsInError c s' id → Place run id

abbrev pub Placed : {c : Constants} {s s' : State} {es : List Event} → Run c s es s' → Type 0
Placed run = (id : List ℕ) → WasInOwn run id → Place run id
