use Rattle.std.proofs.Common.{ap, ◌∙◌, arith, Some}
use Rattle.nb_core.proofs.Leases.{at, send_made}
use Rattle.nb_core.specs.State.{State, Sending, put}
use Rattle.nb_core.proofs.lease.send.Goals as goal

pub returns : goal.returns
returns c k =
    let s = c.args.state.now in
    let p = c.in-Some-Sending in
    let op = c.in_ok-op.op in
    send_made k s c.args.w p.number p.k p.id p.ops c.at.result.now op c.put.new.state c.set_phase.new.state
    (at s c.args.w (Sending p.number p.id p.ops p.k) c.take_phase.result c.take_phase.ensures.phase (p.is ∙ ap Some p.field-0-is))
    c.at.ensures
    (omega (arith, c.if-state-ge-LIMIT.false))
    c.in_ok-op.ensures
    (c.in_ok-put.ensures ∙ ap (λ (m : State). put m op.queue op.due op.envelope) c.take_phase.ensures.rest)
    c.in_ok-set_phase.ensures
