use Rattle.std.proofs.Common.{Ok, Err, false, refl, sym, ◌∙◌, subst}
use Rattle.nb_core.specs.Calls.{Tells}
use Rattle.nb_core.specs.declared.answers.DeskFault.TheVariants.{Halted}
use Rattle.nb_core.specs.declared.call.Answer.TheVariants as answer
use Rattle.nb_core.specs.declared.call.Call.TheVariants as call
use Rattle.nb_core.specs.declared.state.State.{State}
use Rattle.nb_hub.proofs.Drains.{not_idle, not_empty, told, some_free, no_free}
use Rattle.nb_hub.proofs.Serving.{served_quietly}
use Rattle.nb_hub.specs.Ledgers.{past_of, constants_at}
use Rattle.nb_hub.proofs.hub.Hub.ask_drained.Goals as goal

pub returns-then-is_halted : goal.returns-then-is_halted
returns-then-is_halted g c =
    let p = past_of (g.M.Handling.meaning c.self.inside.handlers) c.self.inside.ledger in
    rw (sym c.self.view_is)
    (served_quietly g.D.Cells.honest g.D.Cells.now g.D.Cells.images g.D.Cells.firm g.D.Cells.count g.P.Cells.honest g.P.Cells.now g.P.Cells.images g.P.Cells.firm g.P.Cells.count (call.IsDrained c.args.until) (answer.IsDrained (Err Halted)) p p p.room _ _ refl
    c.self.invariant.legal (refl, sym c.is_halted.ensures ∙ c.if-is_halted.true))

pub returns-then-not-are_idle : goal.returns-then-not-are_idle
returns-then-not-are_idle g c =
    let p = past_of (g.M.Handling.meaning c.self.inside.handlers) c.self.inside.ledger in
    let tells = subst (λ (s : State). Tells (constants_at p) s c.args.until false) c.self.invariant.state (not_idle (constants_at p) _ c.args.until (λ idle. let are = c.are_idle.ensures.1 idle in let not = c.if-not-are_idle.true in cc)) in
    rw (sym c.self.view_is)
    (served_quietly g.D.Cells.honest g.D.Cells.now g.D.Cells.images g.D.Cells.firm g.D.Cells.count g.P.Cells.honest g.P.Cells.now g.P.Cells.images g.P.Cells.firm g.P.Cells.count (call.IsDrained c.args.until) (answer.IsDrained (Ok false)) p p p.room _ _ refl
    c.self.invariant.legal (refl, sym c.is_halted.ensures ∙ c.if-is_halted.false, tells))

pub returns-then-is_some : goal.returns-then-is_some
returns-then-is_some g c =
    let p = past_of (g.M.Handling.meaning c.self.inside.handlers) c.self.inside.ledger in
    let k = c.self.invariant in
    let free = some_free (constants_at p) _ _ _ k.own_is c.least_free.ensures.indexed k.held c.least_free.result (sym c.is_some.ensures ∙ c.if-is_some.true) c.least_free.ensures.free in
    let tells = subst (λ (s : State). Tells (constants_at p) s c.args.until false) k.state (not_empty (constants_at p) _ c.args.until free.0 free.1) in
    rw (sym c.self.view_is)
    (served_quietly g.D.Cells.honest g.D.Cells.now g.D.Cells.images g.D.Cells.firm g.D.Cells.count g.P.Cells.honest g.P.Cells.now g.P.Cells.images g.P.Cells.firm g.P.Cells.count (call.IsDrained c.args.until) (answer.IsDrained (Ok false)) p p p.room _ _ refl
    k.legal (refl, sym c.is_halted.ensures ∙ c.if-is_halted.false, tells))

pub returns : goal.returns
returns g c =
    let p = past_of (g.M.Handling.meaning c.self.inside.handlers) c.self.inside.ledger in
    let k = c.self.invariant in
    let none = no_free (constants_at p) _ _ _ k.own_is c.least_free.ensures.indexed k.held c.least_free.result (sym c.is_some.ensures ∙ c.if-is_some.false) c.least_free.ensures.free in
    let tells = subst (λ (s : State). Tells (constants_at p) s c.args.until c.is_later.result) k.state
    (told (constants_at p) _ c.args.until (c.are_idle.ensures.0 c.if-not-are_idle.false) none c.next_due.result c.next_due.ensures c.is_later.result c.is_later.ensures) in
    rw (sym c.self.view_is)
    (served_quietly g.D.Cells.honest g.D.Cells.now g.D.Cells.images g.D.Cells.firm g.D.Cells.count g.P.Cells.honest g.P.Cells.now g.P.Cells.images g.P.Cells.firm g.P.Cells.count (call.IsDrained c.args.until) (answer.IsDrained (Ok c.is_later.result)) p p p.room _ _ refl
    k.legal (refl, sym c.is_halted.ensures ∙ c.if-is_halted.false, tells))
