use Rattle.std.proofs.Common.{ap, ◌∙◌}
use Rattle.nb_core.specs.Legal.{halted}
use Rattle.nb_hub.specs.declared.ledger.Course.{Course}
use Rattle.nb_hub.proofs.Histories.{keeps_quiet, one_longer, unroomed}
use Rattle.nb_hub.proofs.ledger.Ledger.note.Goals as goal

pub invariant_of-self : goal.invariant_of-self
invariant_of-self c =
    let room = ap (λ (x : Course). x.room) c.self.view_is ∙ c.requires.room in
    let on = ap (λ (x : Course). halted x.events) c.self.view_is ∙ c.requires.on in
    (rw c.push_reserved.ensures.items (keeps_quiet _ _ _ c.args.event c.self.invariant.0 c.requires.quiet on (one_longer _ c.args.event (c.self.invariant.1 room).1)), unroomed)
