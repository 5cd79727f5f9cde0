-- What each status shows: of the words and the sources, or of the history.
use Rattle.std.specs.Prelude.{◌≡◌, ◌⊎◌, ℕ, ◌<◌, List, ◌∷◌, ◌++◌, length, false, Some}
use Rattle.nb_base.specs.Causes.{Rose}
use Rattle.nb_base.specs.declared.entry.Which.TheVariants.{Base, Post}
use Rattle.nb_core.specs.Drained.{Drained}
use Rattle.nb_core.specs.Legal.{halted}
use Rattle.nb_core.specs.History.{opened}
use Rattle.nb_core.specs.Paced.{loads}
use Rattle.nb_core.specs.Past.{takes}
use Rattle.nb_core.specs.Spent.{IsPostSpent, IsWorkerSpent}
use Rattle.nb_core.specs.State.{AllIdle}
use Rattle.nb_core.specs.declared.event.Event.{Event}
use Rattle.nb_core.specs.declared.history.History.{History}
use Rattle.nb_endpoint.specs.Asked.{Asked}
use Rattle.nb_endpoint.specs.Follows.{constants_of, state_in, until_of}
use Rattle.nb_endpoint.specs.declared.status.Status.{Status}
use Rattle.nb_endpoint.specs.declared.status.Status.TheVariants.{Done, NotDrained, WriteFault, BaseFault, PostFault, NoMemory, Damaged, Spent}
use Rattle.nb_hub.specs.Kept.{failed_store}
use Rattle.nb_hub.specs.Returnable.{returnable}
use Rattle.nb_pump.specs.Plans.{PutsEntry, returns_of}
use Rattle.nb_words.specs.declared.words.Command.{Command}
use Rattle.nb_words.specs.declared.words.Command.TheVariants.{Run, Show, Retry, Purge, Sample}

-- with a run nothing is left that is due, or all Takes are made
abbrev pub IsDrained : Asked → History → Type 0
IsDrained a h = Drained (constants_of a) (state_in a h) (until_of a h)

-- not all messages are loaded
abbrev pub HasLoads : Asked → History → Type 0
HasLoads a h = length (loads h.events) < length a.messages

-- the next event of a plan puts an entry
abbrev pub IsPutNext : List Event → History → Type 0
IsPutNext plan h = (e : Event) × (rest : List Event) × (plan ≡ h.events ++ e ∷ rest) × PutsEntry e

-- the entries that can be put back, each put back and then dropped
abbrev pub returns_in : Asked → History → List Event
returns_in a h = returns_of (returnable (constants_of a) (opened h.opening))

-- Which number is spent: that of the next event of a worker, or of the next entry that is loaded or put back.
abbrev pub IsSpentAs : Command → Asked → History → Type 0
IsSpentAs Run a h = (HasLoads a h × IsPostSpent (state_in a h)) ⊎ ((w : ℕ) × IsWorkerSpent (constants_of a) (state_in a h) w)
IsSpentAs Show a h = ⊥
IsSpentAs Retry a h = IsPutNext (returns_in a h) h × IsPostSpent (state_in a h)
IsSpentAs Purge a h = ⊥
IsSpentAs Sample a h = ⊥

-- a number that is needed next stands at its end
abbrev pub IsSpentIn : Asked → History → Type 0
IsSpentIn a h = IsSpentAs a.said.command a h

-- what the history shows that came of what was asked for
abbrev pub Shows : Asked → Status → History → Type 0
Shows a Done h = (halted h.events ≡ false) × (a.said.command ≡ Run → IsDrained a h)
Shows a (NotDrained t) h =
    (halted h.events ≡ false) × (a.said.command ≡ Run) × (IsDrained a h → ⊥) × (t ≡ a.said.turns) × (takes h.events ≡ t) × AllIdle (state_in a h)
Shows a WriteFault h =
    (halted h.events ≡ false) × (a.said.command ≡ Run → IsDrained a h ⊎ ((takes h.events ≡ a.said.turns) × AllIdle (state_in a h)))
Shows a BaseFault h = failed_store h.events ≡ Some Base
Shows a PostFault h = failed_store h.events ≡ Some Post
Shows a NoMemory h = halted h.events ≡ false
Shows a Spent h = (halted h.events ≡ false) × IsSpentIn a h
Shows a _ h = ⊥

-- without a history: no hub was started
abbrev pub IsOfStart : Status → Type 0
IsOfStart BaseFault = Unit {0}
IsOfStart PostFault = Unit {0}
IsOfStart NoMemory = Unit {0}
IsOfStart (Damaged store space key) = Unit {0}
IsOfStart _ = ⊥

-- a fault comes only where the count of its store or sink rose
pub record Counts : Type 0 where
  pub base_before : ℕ
  pub base_after : ℕ
  pub post_before : ℕ
  pub post_after : ℕ
  pub out_before : ℕ
  pub out_after : ℕ

abbrev pub counts : ℕ → ℕ → ℕ → ℕ → ℕ → ℕ → Counts
counts b0 b1 p0 p1 o0 o1 = record { base_before = b0; base_after = b1; post_before = p0; post_after = p1; out_before = o0; out_after = o1 }

abbrev pub Risen : Status → Counts → Type 0
Risen BaseFault c = Rose c.base_before c.base_after
Risen PostFault c = Rose c.post_before c.post_after
Risen WriteFault c = Rose c.out_before c.out_after
Risen _ c = Unit {0}
