-- What the calls answer that only ask.
use Rattle.std.specs.Prelude.{◌≡◌, ℕ, List, [], Bool, true, false, Result, Ok, Err, Option, Some, None}
use Rattle.nb_base.specs.declared.entry.Waiting.{Waiting}
use Rattle.nb_core.specs.Drained.{Drained, IsNextDue, NothingDue}
use Rattle.nb_core.specs.Legal.{halted}
use Rattle.nb_core.specs.Past.{Fixed, constants, state_after}
use Rattle.nb_core.specs.declared.state.State.{State}
use Rattle.nb_core.specs.Standing.{Constants}
use Rattle.nb_core.specs.Step.{Event}
use Rattle.nb_core.specs.declared.answers.DeskFault.{DeskFault}
use Rattle.nb_core.specs.declared.call.Call.{Call}
use Rattle.nb_core.specs.Ready.{IsSending}
use Rattle.nb_core.specs.Refusing.{Refuses}

-- an answer without an event
abbrev pub Says : List Event → List Event → Type 0 → Type 0
Says es own P = (own ≡ []) × (halted es ≡ false) × P

abbrev pub Counts : Fixed → List Event → Call → ℕ → Result ℕ DeskFault → List Event → Type 0
Counts f es x w (Ok left) own = Says es own (IsSending (state_after f es) w left)
Counts f es x w (Err why) own = Refuses f es x why own

abbrev pub IsDue : State → Option Waiting → Type 0
IsDue s None = NothingDue s
IsDue s (Some next) = IsNextDue s next.number next.due

abbrev pub Awaits : Fixed → List Event → Call → Result (Option Waiting) DeskFault → List Event → Type 0
Awaits f es x (Ok next) own = Says es own (IsDue (state_after f es) next)
Awaits f es x (Err why) own = Refuses f es x why own

-- whether the state is drained
abbrev pub Tells : Constants → State → ℕ → Bool → Type 0
Tells c s until true = Drained c s until
Tells c s until false = Drained c s until → ⊥

abbrev pub TellsOf : Fixed → List Event → Call → ℕ → Result Bool DeskFault → List Event → Type 0
TellsOf f es x until (Ok b) own = Says es own (Tells (constants f) (state_after f es) until b)
TellsOf f es x until (Err why) own = Refuses f es x why own
