-- What a Settle answers.
use Rattle.std.specs.Prelude.{◌≡◌, ℕ, ◌+◌, ◌<◌, List, Some, None}
use Rattle.nb_base.specs.Messages.{Message}
use Rattle.nb_base.specs.Shown.{AreFresh}
use Rattle.nb_base.specs.Sound.{limit}
use Rattle.nb_base.specs.declared.entry.OutboxRow.{OutboxRow}
use Rattle.nb_base.specs.declared.plan.Fault.{Fault}
use Rattle.nb_base.specs.declared.plan.Plan.{Plan}
use Rattle.nb_base.specs.declared.plan.Verdict.TheVariants as verdict
use Rattle.nb_base.specs.declared.saga_row.Read.{Read}
use Rattle.nb_base.specs.declared.tables.Queued.{Queued}
use Rattle.nb_headers.specs.Reads.{id_of}
use Rattle.nb_recover.specs.declared.fail.Fail.{Fail}
use Rattle.nb_recover.specs.declared.fail.Fail.TheVariants as fail
use Rattle.nb_recover.specs.declared.moves.Move.{Move}
use Rattle.nb_recover.specs.declared.moves.Move.TheVariants as move
use Rattle.nb_core.specs.Stale.{IsLeastStale, conflict_on}
use Rattle.nb_core.specs.declared.state.State.{State}
use Rattle.nb_core.specs.Standing.{Constants, phase, entry, recorded, base, fails}
use Rattle.nb_core.specs.declared.phase.Phase.TheVariants.{Looked}
use Rattle.nb_core.specs.Failing.{move_after}
use Rattle.nb_core.specs.declared.answers.Settled.{Settled}
use Rattle.nb_core.specs.declared.answers.Settled.TheVariants as settled

-- what the message of this phase fails by, over what was read
pub data FailsBy (c : Constants) (s : State) (reads : List Read) (m : Message) : Fail → Type 0 where
  by_fault : {f : Fault} → c.meaning.on_reads reads m s.moment ≡ verdict.Fault f → FailsBy c s reads m (fail.Fault f)
  by_conflict : {plan : Plan} {r : Read} → c.meaning.on_reads reads m s.moment ≡ verdict.Done plan → IsLeastStale (base s) reads r → FailsBy c s reads m (conflict_on (base s) r)

-- a failure by this, after which this is the move
abbrev pub MovesBy : Constants → State → ℕ → List Read → Queued → Fail → Move → Type 0
MovesBy c s n reads e f v = (recorded s (id_of e.envelope) ≡ None) × FailsBy c s reads e.envelope f × (move_after c.settings (fails s n + 1) e.envelope f ≡ v)

-- what is committed: a plan over what still stands
pub record Commits (c : Constants) (s : State) (reads : List Read) (m : Message) : Type 0 where
  pub new : recorded s (id_of m) ≡ None
  pub plan : Plan
  pub planned : c.meaning.on_reads reads m s.moment ≡ verdict.Done plan
  pub fresh : AreFresh (base s) reads

-- the answer of a Settle of the worker that looked for this entry, and read this
abbrev pub Settles : Constants → State → ℕ → List Read → Queued → Settled → Type 0
Settles c s n reads e (settled.Committed k) = Commits c s reads e.envelope × (s.tables.commits < limit) × (k ≡ s.tables.commits + 1)
Settles c s n reads e (settled.Twin sent) = (r : OutboxRow) × (recorded s (id_of e.envelope) ≡ Some r) × (r.sent ≡ sent)
Settles c s n reads e (settled.Again f) = MovesBy c s n reads e f move.Again
Settles c s n reads e (settled.Later f) = (round : ℕ) × (delay : ℕ) × MovesBy c s n reads e f (move.Later round delay)
Settles c s n reads e (settled.Error f) = MovesBy c s n reads e f move.Error
Settles c s n reads e (settled.Discarded f) = MovesBy c s n reads e f move.Discard

-- the worker looked for an entry, with what it read
pub record HasLooked (s : State) (w : ℕ) (P : ℕ → List Read → Queued → Type 0) : Type 0 where
  pub number : ℕ
  pub reads : List Read
  pub it : Queued
  pub looked : phase s w ≡ Looked number reads
  pub there : entry s number ≡ Some it
  pub holds : P number reads it
