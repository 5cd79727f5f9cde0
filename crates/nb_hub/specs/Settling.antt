-- What a Settle rests on, and what a failure of it comes to.
use Rattle.std.specs.Prelude.{◌≡◌, ℕ, ◌<◌, List, true, false, Some, None}
use Rattle.nb_base.specs.declared.plan.Plan.{Plan}
use Rattle.nb_base.specs.declared.plan.Verdict.{Verdict}
use Rattle.nb_base.specs.declared.plan.Verdict.TheVariants.{Done}
use Rattle.nb_base.specs.declared.saga_row.Read.{Read}
use Rattle.nb_base.specs.declared.tables.Queued.{Queued}
use Rattle.nb_headers.specs.Reads.{id_of}
use Rattle.nb_core.specs.Legal.{halted}
use Rattle.nb_core.specs.Settling.{FailsBy}
use Rattle.nb_core.specs.Standing.{Constants, phase, entry, recorded, fails}
use Rattle.nb_core.specs.declared.phase.Phase.TheVariants.{Looked}
use Rattle.nb_hub.specs.Ledgers.{Past, constants_at, state_at}
use Rattle.nb_recover.specs.declared.fail.Fail.{Fail}

-- one more event may begin
pub record Begun (p : Past) : Type 0 where
  pub room : p.room ≡ true
  pub on : halted p.events ≡ false

-- the worker looked for this entry, whose message isn't recorded, and read this for it
pub record IsAt (p : Past) (w n : ℕ) (reads : List Read) : Type 0 where
  pub begun : Begun p
  pub worker : w < p.fixed.opening.workers
  pub it : Queued
  pub looked : phase (state_at p) w ≡ Looked n reads
  pub there : entry (state_at p) n ≡ Some it
  pub new : recorded (state_at p) (id_of it.envelope) ≡ None

-- and this is the verdict over what was read
pub record Judged (p : Past) (w n : ℕ) (reads : List Read) (v : Verdict) : Type 0 where
  pub at : IsAt p w n reads
  pub verdict_is : (constants_at p).meaning.on_reads reads at.it.envelope (state_at p).moment ≡ v

-- the message fails by this
pub record FailsNow (p : Past) (w n : ℕ) (why : Fail) : Type 0 where
  pub reads : List Read
  pub at : IsAt p w n reads
  pub by : FailsBy (constants_at p) (state_at p) reads at.it.envelope why

-- the plan is committed
pub record CommitsNow (p : Past) (w n : ℕ) (plan : Plan) : Type 0 where
  pub reads : List Read
  pub at : IsAt p w n reads
  pub planned : (constants_at p).meaning.on_reads reads at.it.envelope (state_at p).moment ≡ Done plan
  pub fresh : Rattle.nb_base.specs.Shown.AreFresh (Rattle.nb_core.specs.Standing.base (state_at p)) reads
