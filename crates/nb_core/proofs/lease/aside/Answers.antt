use Rattle.std.proofs.Common.{ap, ◌∙◌, arith, Some}
use Rattle.nb_core.proofs.Leases.{at, aside_made}
use Rattle.nb_core.specs.State.{State, Leaving, put}
use Rattle.nb_core.proofs.lease.aside.Goals as goal

pub returns : goal.returns
returns c k =
    let s = c.args.state.now in
    let p = c.in-Some-Leaving in
    aside_made k s c.args.w p.number p.queue p.due p.copy c.put.new.state c.set_phase.new.state
    (at s c.args.w (Leaving p.number p.queue p.due p.copy) c.take_phase.result c.take_phase.ensures.phase (p.is ∙ ap Some p.field-0-is))
    (omega (arith, c.if-state-ge-LIMIT.false))
    (c.in_ok-put.ensures ∙ ap (λ (m : State). put m p.queue p.due p.copy) c.take_phase.ensures.rest)
    c.in_ok-set_phase.ensures
