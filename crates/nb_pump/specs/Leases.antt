-- What one lease does: a worker takes a message, and handles it to its end.
use Rattle.std.specs.Prelude.{◌≡◌, ◌⊎◌, ℕ, ◌<◌, ◌≤◌, List, [], ◌∷◌, ◌++◌, All, true, false, Some, Result, Ok, Err}
use Rattle.nb_base.specs.Meanings.{Meaning, IsShown}
use Rattle.nb_base.specs.Messages.{Message}
use Rattle.nb_base.specs.declared.entry.Which.TheVariants.{Base, Post}
use Rattle.nb_base.specs.declared.saga_row.Read.{Read}
use Rattle.nb_base.specs.declared.tables.Queued.{Queued}
use Rattle.nb_core.specs.Calls.{View, state_of, Ready}
use Rattle.nb_core.specs.Legal.{halted}
use Rattle.nb_core.specs.Past.{IsLegal, constants, takes}
use Rattle.nb_core.specs.Spent.{IsWorkerSpent}
use Rattle.nb_core.specs.State.{phase, entry, IsFree}
use Rattle.nb_core.specs.declared.state.State.{State}
use Rattle.nb_core.specs.declared.answers.DeskFault.{DeskFault}
use Rattle.nb_core.specs.declared.answers.DeskFault.TheVariants.{StoreFailed, PostFailed, Spent, Halted, NoMemory}
use Rattle.nb_core.specs.declared.answers.Settled.{Settled}
use Rattle.nb_core.specs.declared.answers.Settled.TheVariants as settled
use Rattle.nb_core.specs.declared.call.Call.TheVariants as call
use Rattle.nb_core.specs.declared.event.Event.{Event}
use Rattle.nb_core.specs.declared.event.Event.TheVariants.{Load, Take, Look, Settle, Send, Mark, Aside, Remove, Tick, Release, Purge, PutBack, DropBack, Stop, Halt}
use Rattle.nb_core.specs.declared.phase.Phase.TheVariants.{Idle, Held}
use Rattle.nb_pump.specs.Made.{Made}
use Rattle.nb_pump.specs.declared.outcome.Next.{Next}
use Rattle.nb_pump.specs.declared.outcome.Next.TheVariants as next
use Rattle.nb_pump.specs.declared.outcome.Turn.{Turn}
use Rattle.nb_pump.specs.declared.outcome.Turn.TheVariants.{Ended, Nothing, Limit}

-- an event of this worker, behind its Take
abbrev pub IsOfLease : ℕ → Event → Type 0
IsOfLease w (Load m) = ⊥
IsOfLease w (Take k) = ⊥
IsOfLease w (Look k) = k ≡ w
IsOfLease w (Settle k) = k ≡ w
IsOfLease w (Send k) = k ≡ w
IsOfLease w (Mark k) = k ≡ w
IsOfLease w (Aside k) = k ≡ w
IsOfLease w (Remove k) = k ≡ w
IsOfLease w (Tick to) = ⊥
IsOfLease w (Release n) = ⊥
IsOfLease w (Purge id) = ⊥
IsOfLease w (PutBack n) = ⊥
IsOfLease w (DropBack n) = ⊥
IsOfLease w (Stop moment) = ⊥
IsOfLease w (Halt store) = ⊥

-- the own events that a fault leaves at the end
abbrev pub stop_of : DeskFault → List Event
stop_of StoreFailed = Halt Base ∷ []
stop_of PostFailed = Halt Post ∷ []
stop_of Spent = []
stop_of Halted = []
stop_of NoMemory = []

-- the event is the last
abbrev pub EndsIn : List Event → Event → Type 0
EndsIn es e = (before : List Event) × (es ≡ before ++ e ∷ [])

-- the next event of the worker needs a number that stands at its end
abbrev pub IsSpentAt : ℕ → View → Type 0
IsSpentAt w v = IsWorkerSpent (constants v.fixed) (state_of v) w

-- why a fault was met, in what is seen after it; S says which number is spent
abbrev pub IsCause : Type 0 → DeskFault → View → Type 0
IsCause S StoreFailed v = EndsIn v.events (Halt Base)
IsCause S PostFailed v = EndsIn v.events (Halt Post)
IsCause S Spent v = (halted v.events ≡ false) × S
IsCause S Halted v = halted v.events ≡ true
IsCause S NoMemory v = halted v.events ≡ false

-- the worker holds an entry with this message
pub record HoldsMessage (s : State) (w : ℕ) (m : Message) : Type 0 where
  pub number : ℕ
  pub it : Queued
  pub held : phase s w ≡ Held number
  pub there : entry s number ≡ Some it
  pub message_is : it.envelope ≡ m

-- the worker looked, and what it read for its message is what some sound tables show; a verdict over it may be settled
pub record MayJudge (meaning : Meaning) (w : ℕ) (m : Message) (reads : List Read) (moment : ℕ) (v : View) : Type 0 where
  pub shown : IsShown meaning m reads
  pub ready : Ready (call.Settle w (record { reads = reads; verdict = meaning.on_reads reads m moment })) v
  pub legal : IsLegal v.fixed v.events
  pub off : halted v.events ≡ false

-- what is left to do after a settle
abbrev pub next_after : Settled → Next
next_after (settled.Committed n) = next.Dispatch
next_after (settled.Twin true) = next.Finish
next_after (settled.Twin false) = next.Dispatch
next_after (settled.Again f) = next.Leave
next_after (settled.Later f) = next.PutAside
next_after (settled.Error f) = next.PutAside
next_after (settled.Discarded f) = next.Finish

-- where that may be done
abbrev pub CanFollow : Next → ℕ → View → Type 0
CanFollow next.Dispatch w v = Ready (call.Unsent w) v
CanFollow next.PutAside w v = Ready (call.Aside w) v
CanFollow next.Finish w v = Ready (call.Remove w) v
CanFollow next.Leave w v = IsLegal v.fixed v.events × (phase (state_of v) w ≡ Idle) × (halted v.events ≡ false)

-- ---- what the worker does behind its Take

abbrev pub FollowEnd : ℕ → Result (Unit {0}) DeskFault → List Event → View → View → Type 0
FollowEnd w (Ok u) own v x = Made v own x × (phase (state_of x) w ≡ Idle) × (halted x.events ≡ false)
FollowEnd w (Err f) own v x = Made v (own ++ stop_of f) x × IsCause (IsSpentAt w x) f x

-- own events of the lease, after which the worker is idle, or a fault
pub record Follows (w : ℕ) (r : Result (Unit {0}) DeskFault) (v x : View) : Type 0 where
  pub own : List Event
  pub of_lease : All (IsOfLease w) own
  pub end : FollowEnd w r own v x

-- ---- the whole lease

-- a fault at the Take, or behind it
abbrev pub Breaks : ℕ → DeskFault → View → View → Type 0
Breaks w f v x =
    (Made v (stop_of f) x ⊎ ((own : List Event) × All (IsOfLease w) own × Made v (Take w ∷ own ++ stop_of f) x)) × IsCause (IsSpentAt w x) f x

-- a lease: the Take, and what follows; or there was nothing to take; or no Take is left
abbrev pub TurnIs : ℕ → Result Turn DeskFault → View → View → Type 0
TurnIs w (Ok Ended) v x = (own : List Event) × All (IsOfLease w) own × Made v (Take w ∷ own) x × (phase (state_of x) w ≡ Idle) × (halted x.events ≡ false)
TurnIs w (Ok Nothing) v x =
    Made v [] x × (halted x.events ≡ false) × (takes x.events < x.fixed.turns) × ((n : ℕ) → IsFree (constants x.fixed) (state_of x) n → ⊥)
TurnIs w (Ok Limit) v x = Made v [] x × (halted x.events ≡ false) × (x.fixed.turns ≤ takes x.events)
TurnIs w (Err f) v x = Breaks w f v x
