use Rattle.std.proofs.Common.{ap, ◌∙◌, Some}
use Rattle.nb_core.proofs.Leases.{at, remove_made}
use Rattle.nb_core.specs.State.{State, Done, removed}
use Rattle.nb_core.proofs.lease.remove.Goals as goal

pub returns : goal.returns
returns c k =
    let s = c.args.state.now in
    let p = c.in-Some-Done in
    remove_made k s c.args.w p.number c.remove_entry.new.state c.set_phase.new.state
    (at s c.args.w (Done p.number) c.take_phase.result c.take_phase.ensures.phase (p.is ∙ ap Some p.field-0-is))
    (c.remove_entry.ensures ∙ ap (λ (m : State). removed m p.number) c.take_phase.ensures.rest)
    c.in_ok-set_phase.ensures
