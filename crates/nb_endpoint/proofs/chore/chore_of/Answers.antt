use Rattle.std.proofs.Common.{sym, subst, List, ℕ}
use Rattle.nb_core.specs.Past.{constants}
use Rattle.nb_core.specs.Calls.{state_of}
use Rattle.nb_hub.specs.Kept.{seen}
use Rattle.nb_hub.specs.Ledgers.{past_of}
use Rattle.nb_pump.specs.Plans.{StandOnce, CanReturnAll, CanPurgeAll}
use Rattle.nb_endpoint.proofs.Choosing.{can_return, returnable_once, can_purge, purgeable_once}
use Rattle.nb_endpoint.proofs.chore.chore_of.Goals as goal

pub returns-in-Ok-clause-can : goal.returns-in-Ok-clause-can
returns-in-Ok-clause-can g c =
    let v = seen (past_of (g.M.Handling.meaning c.args.hub.now.handlers) c.args.hub.now.course) in
    subst (λ (ns : List ℕ). CanReturnAll v ns × StandOnce ns) (sym c.in-Ok.ensures) (can_return (constants v.fixed) (state_of v), returnable_once (constants v.fixed) (state_of v))

pub returns-in-Ok-purgeable-clause-can : goal.returns-in-Ok-purgeable-clause-can
returns-in-Ok-purgeable-clause-can g c =
    let v = seen (past_of (g.M.Handling.meaning c.args.hub.now.handlers) c.args.hub.now.course) in
    subst (λ (ids : List (List ℕ)). CanPurgeAll v ids × StandOnce ids) (sym c.in-Ok-purgeable.ensures) (can_purge (constants v.fixed) (state_of v), purgeable_once (constants v.fixed) (state_of v))
