use Rattle.std.proofs.Common.{Ok, Err, refl, sym, ◌∙◌, subst}
use Rattle.nb_core.specs.Calls.{IsDue}
use Rattle.nb_core.specs.declared.answers.DeskFault.TheVariants.{Halted}
use Rattle.nb_core.specs.declared.call.Answer.TheVariants as answer
use Rattle.nb_core.specs.declared.call.Call.TheVariants as call
use Rattle.nb_core.specs.declared.state.State.{State}
use Rattle.nb_hub.proofs.Drains.{next_due}
use Rattle.nb_hub.proofs.Serving.{served_quietly}
use Rattle.nb_hub.specs.Ledgers.{past_of}
use Rattle.nb_hub.proofs.hub.Hub.ask_next_due.Goals as goal

pub returns-then-is_halted : goal.returns-then-is_halted
returns-then-is_halted g c =
    let p = past_of (g.M.Handling.meaning c.self.inside.handlers) c.self.inside.ledger in
    rw (sym c.self.view_is)
    (served_quietly g.D.Cells.honest g.D.Cells.now g.D.Cells.images g.D.Cells.firm g.D.Cells.count g.P.Cells.honest g.P.Cells.now g.P.Cells.images g.P.Cells.firm g.P.Cells.count call.NextDue (answer.Due (Err Halted)) p p p.room _ _ refl
    c.self.invariant.legal (refl, sym c.is_halted.ensures ∙ c.if-is_halted.true))

pub returns : goal.returns
returns g c =
    let p = past_of (g.M.Handling.meaning c.self.inside.handlers) c.self.inside.ledger in
    let due = subst (λ (s : State). IsDue s c.next_due.result) c.self.invariant.state (next_due _ c.next_due.result c.next_due.ensures) in
    rw (sym c.self.view_is)
    (served_quietly g.D.Cells.honest g.D.Cells.now g.D.Cells.images g.D.Cells.firm g.D.Cells.count g.P.Cells.honest g.P.Cells.now g.P.Cells.images g.P.Cells.firm g.P.Cells.count call.NextDue (answer.Due (Ok c.next_due.result)) p p p.room _ _ refl
    c.self.invariant.legal (refl, sym c.is_halted.ensures ∙ c.if-is_halted.false, due))
