use Rattle.std.proofs.Common.{◌∙◌, subst}
use Rattle.nb_cells.specs.Slots.{HasSlot}
use Rattle.nb_cells.proofs.BatchLaws.{more_slots}
use Rattle.nb_cells.proofs.slots.make_room.Goals as goal

pub loop-staged-preserved : goal.loop-staged-preserved
loop-staged-preserved c =
    let made = subst (λ s. HasSlot c.make_slot.new.slots s.place) c.staged-item.is c.in_ok-make_slot.ensures.made in (
      c.make_slot.ensures.same ∙ c.loop-staged.invariant.0,
      more_slots c.loop-staged.slots c.make_slot.new.slots c.args.batch.now _ c.staged-item.result c.loop-staged-test.true c.loop-staged.invariant.1 c.make_slot.ensures.kept made,
    )
