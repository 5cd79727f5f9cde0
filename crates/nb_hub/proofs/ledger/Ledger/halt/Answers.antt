use Rattle.std.proofs.Common.{ap, ◌∙◌}
use Rattle.nb_core.specs.declared.event.Event.TheVariants.{Halt}
use Rattle.nb_hub.specs.declared.ledger.Course.{Course}
use Rattle.nb_hub.proofs.Histories.{keeps_halt, one_longer, unroomed}
use Rattle.nb_hub.proofs.ledger.Ledger.halt.Goals as goal

pub invariant_of-self : goal.invariant_of-self
invariant_of-self c =
    let room = ap (λ (x : Course). x.room) c.self.view_is ∙ c.requires.room in
    (rw c.push_reserved.ensures.items (keeps_halt _ _ _ c.args.store c.self.invariant.0 (one_longer _ (Halt c.args.store) (c.self.invariant.1 room).1)), unroomed)
