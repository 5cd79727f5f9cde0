use Rattle.std.proofs.Common.{sym, subst, List, ℕ}
use Rattle.nb_core.specs.Calls.{state_of}
use Rattle.nb_core.specs.Past.{constants}
use Rattle.nb_hub.specs.Kept.{seen}
use Rattle.nb_hub.specs.Ledgers.{past_of}
use Rattle.nb_pump.specs.Plans.{StandOnce, CanReturnAll}
use Rattle.nb_schedule.proofs.Choosing.{can_return, returnable_once}
use Rattle.nb_schedule.proofs.ended.return_at.Goals as goal

pub return_all-requires-clause-can : goal.return_all-requires-clause-can
return_all-requires-clause-can g c =
    let v = seen (past_of (g.M.Handling.meaning c.ask.new.desk.handlers) c.ask.new.desk.course) in
    subst (λ (ns : List ℕ). CanReturnAll v ns) (sym c.in-Ok-returnable.ensures) (can_return (constants v.fixed) (state_of v))

pub return_all-requires-clause-once : goal.return_all-requires-clause-once
return_all-requires-clause-once g c =
    let v = seen (past_of (g.M.Handling.meaning c.ask.new.desk.handlers) c.ask.new.desk.course) in
    subst (λ (ns : List ℕ). StandOnce ns) (sym c.in-Ok-returnable.ensures) (returnable_once (constants v.fixed) (state_of v))
