use Rattle.std.proofs.Common.{◌-◌, Ok, Err, refl, sym, ◌∙◌, subst}
use Rattle.nb_core.specs.Calls.{Ready}
use Rattle.nb_core.specs.declared.answers.DeskFault.TheVariants.{Halted}
use Rattle.nb_core.specs.declared.call.Answer.TheVariants as answer
use Rattle.nb_core.specs.declared.call.Call.TheVariants as call
use Rattle.nb_hub.proofs.Histories.{standing_of}
use Rattle.nb_hub.proofs.Leases.{sends_at, left_at}
use Rattle.nb_hub.proofs.Serving.{served_quietly}
use Rattle.nb_hub.specs.Kept.{seen}
use Rattle.nb_hub.specs.Ledgers.{past_of}
use Rattle.nb_hub.proofs.hub.Hub.ask_unsent.Goals as goal

pub returns-then-is_halted : goal.returns-then-is_halted
returns-then-is_halted g c =
    let p = past_of (g.M.Handling.meaning c.self.inside.handlers) c.self.inside.ledger in
    rw (sym c.self.view_is)
    (served_quietly g.D.Cells.honest g.D.Cells.now g.D.Cells.images g.D.Cells.firm g.D.Cells.count g.P.Cells.honest g.P.Cells.now g.P.Cells.images g.P.Cells.firm g.P.Cells.count (call.Unsent c.args.w) (answer.Unsent (Err Halted)) p p p.room _ _ refl
    c.self.invariant.legal (refl, sym c.is_halted.ensures ∙ c.if-is_halted.true))

pub batch_of-batch-requires : goal.batch_of-batch-requires
batch_of-batch-requires g c =
    let p = past_of (g.M.Handling.meaning c.self.inside.handlers) c.self.inside.ledger in
    let k = c.self.invariant in
    let ready = subst (λ v. Ready (call.Unsent c.args.w) (seen (past_of (g.M.Handling.meaning v.handlers) v.course))) (sym c.self.view_is) c.requires in
    sends_at p _ k.state (standing_of p k.means k.legal) c.args.w ready.1.0 ready.1.1

pub returns : goal.returns
returns g c =
    let p = past_of (g.M.Handling.meaning c.self.inside.handlers) c.self.inside.ledger in
    let k = c.self.invariant in
    let ready = subst (λ v. Ready (call.Unsent c.args.w) (seen (past_of (g.M.Handling.meaning v.handlers) v.course))) (sym c.self.view_is) c.requires in
    let left = left_at p _ k.state (standing_of p k.means k.legal) c.args.w _ _ ready.1.0 c.len.result _ _ c.batch_of-batch.ensures c.len.ensures.value ready.1.1 in
    rw (sym c.self.view_is)
    (served_quietly g.D.Cells.honest g.D.Cells.now g.D.Cells.images g.D.Cells.firm g.D.Cells.count g.P.Cells.honest g.P.Cells.now g.P.Cells.images g.P.Cells.firm g.P.Cells.count (call.Unsent c.args.w) (answer.Unsent (Ok (c.len.result - c.batch_of-batch.result.k))) p p p.room _ _ refl
    k.legal (refl, sym c.is_halted.ensures ∙ c.if-is_halted.false, left))
