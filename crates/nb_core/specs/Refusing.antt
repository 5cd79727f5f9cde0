-- What a refused call answers.
use Rattle.std.specs.Prelude.{◌≡◌, ◌≤◌, List, [], ◌∷◌, true, false, Result, Ok, Err, Option, Some, None}
use Rattle.nb_base.specs.Sound.{limit}
use Rattle.nb_base.specs.declared.entry.Which.{Which}
use Rattle.nb_base.specs.declared.entry.Which.TheVariants.{Base, Post}
use Rattle.nb_core.specs.Legal.{halted}
use Rattle.nb_core.specs.Past.{Fixed, constants, state_after}
use Rattle.nb_core.specs.declared.state.State.{State}
use Rattle.nb_core.specs.Standing.{Constants}
use Rattle.nb_core.specs.Step.{Event, Halt}
use Rattle.nb_core.specs.declared.answers.DeskFault.{DeskFault}
use Rattle.nb_core.specs.declared.answers.DeskFault.TheVariants.{StoreFailed, PostFailed, Spent, Halted, NoMemory}
use Rattle.nb_core.specs.declared.call.Call.{Call}
use Rattle.nb_core.specs.declared.call.Call.TheVariants as call
use Rattle.nb_core.specs.Settling.{Commits, HasLooked}

-- the store on which the call writes
abbrev pub store_of : Call → Option Which
store_of (call.Load m) = Some Post
store_of (call.Take w) = None
store_of (call.Look w) = None
store_of (call.Settle w o) = Some Base
store_of (call.Send w) = Some Post
store_of (call.Mark w) = Some Base
store_of (call.Aside w) = Some Post
store_of (call.Remove w) = Some Post
store_of (call.Tick to) = None
store_of (call.Release n) = Some Post
store_of (call.Purge id) = Some Base
store_of (call.PutBack n) = Some Post
store_of (call.DropBack n) = Some Post
store_of (call.Unsent w) = None
store_of call.NextDue = None
store_of (call.IsDrained until) = None

-- the numbers are spent for this call
abbrev pub IsSpent : Constants → State → Call → Type 0
IsSpent c s (call.Load m) = limit ≤ s.post.next
IsSpent c s (call.Take w) = ⊥
IsSpent c s (call.Look w) = ⊥
IsSpent c s (call.Settle w o) = (limit ≤ s.tables.commits) × HasLooked s w (λ n reads e. Commits c s reads e.envelope)
IsSpent c s (call.Send w) = limit ≤ s.post.next
IsSpent c s (call.Mark w) = ⊥
IsSpent c s (call.Aside w) = limit ≤ s.post.next
IsSpent c s (call.Remove w) = ⊥
IsSpent c s (call.Tick to) = ⊥
IsSpent c s (call.Release n) = ⊥
IsSpent c s (call.Purge id) = ⊥
IsSpent c s (call.PutBack n) = limit ≤ s.post.next
IsSpent c s (call.DropBack n) = ⊥
IsSpent c s (call.Unsent w) = ⊥
IsSpent c s call.NextDue = ⊥
IsSpent c s (call.IsDrained until) = ⊥

-- a refusal: only where the history has no Halt, but for the one that says that it has
abbrev pub Refuses : Fixed → List Event → Call → DeskFault → List Event → Type 0
Refuses f es x StoreFailed own = (own ≡ Halt Base ∷ []) × (halted es ≡ false) × (store_of x ≡ Some Base)
Refuses f es x PostFailed own = (own ≡ Halt Post ∷ []) × (halted es ≡ false) × (store_of x ≡ Some Post)
Refuses f es x Spent own = (own ≡ []) × (halted es ≡ false) × IsSpent (constants f) (state_after f es) x
Refuses f es x Halted own = (own ≡ []) × (halted es ≡ true)
Refuses f es x NoMemory own = (own ≡ []) × (halted es ≡ false)

-- the call makes this event, or is refused
abbrev pub Does : Fixed → List Event → Call → Event → Result (Unit {0}) DeskFault → List Event → Type 0
Does f es x e (Ok u) own = own ≡ e ∷ []
Does f es x e (Err why) own = Refuses f es x why own
