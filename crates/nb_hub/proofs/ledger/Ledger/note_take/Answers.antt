use Rattle.std.proofs.Common.{ap, ◌∙◌}
use Rattle.nb_core.specs.Legal.{halted}
use Rattle.nb_core.specs.declared.event.Event.TheVariants.{Take}
use Rattle.nb_hub.specs.declared.ledger.Course.{Course}
use Rattle.nb_hub.proofs.Histories.{keeps_take, one_longer, unroomed}
use Rattle.nb_hub.proofs.ledger.Ledger.note_take.Goals as goal

pub invariant_of-self : goal.invariant_of-self
invariant_of-self c =
    let room = ap (λ (x : Course). x.room) c.self.view_is ∙ c.requires.room in
    let on = ap (λ (x : Course). halted x.events) c.self.view_is ∙ c.requires.on in
    (rw c.push_reserved.ensures.items (keeps_take _ _ _ c.args.w c.self.invariant.0 on (one_longer _ (Take c.args.w) (c.self.invariant.1 room).1)), unroomed)
