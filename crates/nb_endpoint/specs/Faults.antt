-- The statuses of faults.
use Rattle.std.specs.Prelude.{◌≡◌, ℕ, List, Bool, true, false, Option, Some, Result, Ok, Err}
use Rattle.nb_base.specs.declared.entry.Which.TheVariants.{Base, Post}
use Rattle.nb_core.specs.Legal.{halted}
use Rattle.nb_core.specs.declared.answers.DeskFault.{DeskFault}
use Rattle.nb_core.specs.declared.answers.DeskFault.TheVariants as desk
use Rattle.nb_core.specs.declared.event.Event.{Event}
use Rattle.nb_core.specs.declared.state.State.{State}
use Rattle.nb_endpoint.specs.Printing.{PrintIs}
use Rattle.nb_endpoint.specs.declared.printing.Worked.{Worked}
use Rattle.nb_endpoint.specs.declared.status.Status.{Status}
use Rattle.nb_endpoint.specs.declared.status.Status.TheVariants.{Done, NotDrained, BaseFault, PostFault, NoMemory, Damaged, Spent}
use Rattle.nb_hub.specs.Kept.{failed_store}
use Rattle.nb_hub.specs.declared.fault.StartFault.{StartFault}
use Rattle.nb_hub.specs.declared.fault.StartFault.TheVariants as start

-- of a hub that can't be started
abbrev pub of_start : StartFault → Status
of_start start.StoreFailed = BaseFault
of_start start.PostFailed = PostFault
of_start (start.Damaged store space key) = Damaged store space key
of_start start.NoMemory = NoMemory

-- At the end of these events a desk was met with this fault. Its one caller finds no Halt of an earlier call.
abbrev pub IsMet : DeskFault → List Event → Type 0
IsMet desk.StoreFailed es = failed_store es ≡ Some Base
IsMet desk.PostFailed es = failed_store es ≡ Some Post
IsMet desk.Spent es = halted es ≡ false
IsMet desk.Halted es = ⊥
IsMet desk.NoMemory es = halted es ≡ false

-- the status says which store failed, or that a number or memory was wanting
abbrev pub IsStatusOf : DeskFault → Status → Type 0
IsStatusOf desk.StoreFailed status = status ≡ BaseFault
IsStatusOf desk.PostFailed status = status ≡ PostFault
IsStatusOf desk.Spent status = status ≡ Spent
IsStatusOf desk.Halted status = ⊥
IsStatusOf desk.NoMemory status = status ≡ NoMemory

-- work that was done is reported, and a fault is said
abbrev pub EndIs : Result Bool DeskFault → ℕ → List Event → State → Worked → Option (List ℕ) → Option (List ℕ) → ℕ → ℕ → Type 0
EndIs (Ok true) turns es s x old new o0 o1 = PrintIs Done s x old new o0 o1
EndIs (Ok false) turns es s x old new o0 o1 = PrintIs (NotDrained turns) s x old new o0 o1
EndIs (Err f) turns es s x old new o0 o1 = IsStatusOf f x.status × (x.printed ≡ 0) × (new ≡ old)
