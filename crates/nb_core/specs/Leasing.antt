-- What the calls answer by which a worker handles a message: Take, Look and Settle.
use Rattle.std.specs.Prelude.{◌≡◌, ℕ, ◌<◌, ◌≤◌, List, [], ◌∷◌, false, Result, Ok, Err, Some, None}
use Rattle.nb_base.specs.Messages.{Message}
use Rattle.nb_base.specs.Shown.{seen}
use Rattle.nb_base.specs.declared.entry.OutboxRow.{OutboxRow}
use Rattle.nb_base.specs.declared.tables.Queued.{Queued}
use Rattle.nb_headers.specs.Reads.{id_of}
use Rattle.nb_core.specs.Legal.{halted}
use Rattle.nb_core.specs.Past.{Fixed, constants, state_after, takes}
use Rattle.nb_core.specs.declared.state.State.{State}
use Rattle.nb_core.specs.Standing.{Constants, phase, entry, recorded, base, IsFree, IsLeastFree}
use Rattle.nb_core.specs.declared.phase.Phase.TheVariants.{Held}
use Rattle.nb_core.specs.Step.{Event, Take, Look, Settle}
use Rattle.nb_core.specs.declared.answers.DeskFault.{DeskFault}
use Rattle.nb_core.specs.declared.answers.Look.{Look as LookAnswer}
use Rattle.nb_core.specs.declared.answers.Look.TheVariants.{Fresh, Known}
use Rattle.nb_core.specs.declared.answers.Settled.{Settled}
use Rattle.nb_core.specs.declared.answers.Taken.{Taken}
use Rattle.nb_core.specs.declared.answers.Taken.TheVariants.{Got, Nothing, Limit}
use Rattle.nb_core.specs.declared.call.Call.{Call}
use Rattle.nb_core.specs.Settling.{Settles, HasLooked}
use Rattle.nb_core.specs.Refusing.{Refuses}

-- the least free entry is taken, and has this message
pub record IsTaken (c : Constants) (s : State) (m : Message) : Type 0 where
  pub number : ℕ
  pub least : IsLeastFree c s number
  pub message_is : least.free.it.envelope ≡ m

abbrev pub Hands : Fixed → List Event → ℕ → Taken → List Event → Type 0
Hands f es w (Got m) own = (own ≡ Take w ∷ []) × (takes es < f.turns) × IsTaken (constants f) (state_after f es) m
Hands f es w Nothing own = (own ≡ []) × (halted es ≡ false) × (takes es < f.turns) × ((n : ℕ) → IsFree (constants f) (state_after f es) n → ⊥)
Hands f es w Limit own = (own ≡ []) × (halted es ≡ false) × (f.turns ≤ takes es)

abbrev pub Takes : Fixed → List Event → Call → ℕ → Result Taken DeskFault → List Event → Type 0
Takes f es x w (Ok t) own = Hands f es w t own
Takes f es x w (Err why) own = Refuses f es x why own

-- what a Look finds of a message
abbrev pub Finds : Constants → State → Message → LookAnswer → Type 0
Finds c s m (Fresh reads) = (recorded s (id_of m) ≡ None) × (reads ≡ seen (base s) (c.meaning.keys m))
Finds c s m (Known sent) = (r : OutboxRow) × (recorded s (id_of m) ≡ Some r) × (r.sent ≡ sent)

-- the worker holds an entry
pub record HoldsOne (s : State) (w : ℕ) (P : Queued → Type 0) : Type 0 where
  pub number : ℕ
  pub it : Queued
  pub held : phase s w ≡ Held number
  pub there : entry s number ≡ Some it
  pub holds : P it

abbrev pub Sees : Fixed → List Event → Call → ℕ → Result LookAnswer DeskFault → List Event → Type 0
Sees f es x w (Ok l) own = (own ≡ Look w ∷ []) × HoldsOne (state_after f es) w (λ e. Finds (constants f) (state_after f es) e.envelope l)
Sees f es x w (Err why) own = Refuses f es x why own

abbrev pub SettlesAs : Fixed → List Event → Call → ℕ → Result Settled DeskFault → List Event → Type 0
SettlesAs f es x w (Ok way) own = (own ≡ Settle w ∷ []) × HasLooked (state_after f es) w (λ n reads e. Settles (constants f) (state_after f es) n reads e way)
SettlesAs f es x w (Err why) own = Refuses f es x why own
