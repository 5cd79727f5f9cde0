-- A call of a worker that finds its number spent is that worker's next event.
use Rattle.std.proofs.Common.{◌≡◌, ℕ, ◌+◌, ◌<◌, length, sym, subst, arith}
use Rattle.nb_core.specs.Calls.{IsSpent, IsSending, IsLeaving}
use Rattle.nb_core.specs.Spent.{NeedsNumber, IsWorkerSpent}
use Rattle.nb_core.specs.State.{State, Constants, phase}
use Rattle.nb_core.specs.declared.call.Call.TheVariants as call
use Rattle.nb_core.specs.declared.phase.Phase.{Phase}
use Rattle.nb_core.specs.declared.phase.Phase.TheVariants.{Looked, Sending, Leaving}
use Rattle.nb_base.specs.declared.plan.Outcome.{Outcome}

pub spent_settle : (c : Constants) (s : State) (w : ℕ) (o : Outcome) → IsSpent c s (call.Settle w o) → IsWorkerSpent c s w
spent_settle c s w o x = subst (λ (p : Phase). NeedsNumber c s p) (sym x.1.looked) (x.0, (x.1.it, x.1.there, x.1.holds))

pub spent_send : (c : Constants) (s : State) (w left : ℕ) → 0 < left → IsSending s w left → IsSpent c s (call.Send w) → IsWorkerSpent c s w
spent_send c s w left more is x =
    let sum = is.left_is in
    subst (λ (p : Phase). NeedsNumber c s p) (sym is.sending) ((omega (arith, more, sum)), x)

pub spent_aside : (c : Constants) (s : State) (w : ℕ) → IsLeaving s w → IsSpent c s (call.Aside w) → IsWorkerSpent c s w
spent_aside c s w is x = subst (λ (p : Phase). NeedsNumber c s p) (sym is.4) x
