use Rattle.std.proofs.Common.{sym, subst, List, ℕ}
use Rattle.nb_core.specs.Calls.{state_of}
use Rattle.nb_core.specs.Past.{constants}
use Rattle.nb_hub.specs.Kept.{seen}
use Rattle.nb_hub.specs.Ledgers.{past_of}
use Rattle.nb_pump.specs.Plans.{StandOnce, CanPurgeAll}
use Rattle.nb_schedule.proofs.Choosing.{can_purge, purgeable_once}
use Rattle.nb_schedule.proofs.ended.purge_at.Goals as goal

pub purge_all-requires-clause-can : goal.purge_all-requires-clause-can
purge_all-requires-clause-can g c =
    let v = seen (past_of (g.M.Handling.meaning c.ask.new.desk.handlers) c.ask.new.desk.course) in
    subst (λ (ids : List (List ℕ)). CanPurgeAll v ids) (sym c.in-Ok-purgeable.ensures) (can_purge (constants v.fixed) (state_of v))

pub purge_all-requires-clause-once : goal.purge_all-requires-clause-once
purge_all-requires-clause-once g c =
    let v = seen (past_of (g.M.Handling.meaning c.ask.new.desk.handlers) c.ask.new.desk.course) in
    subst (λ (ids : List (List ℕ)). StandOnce ids) (sym c.in-Ok-purgeable.ensures) (purgeable_once (constants v.fixed) (state_of v))
