use Rattle.std.proofs.Common.{◌∙◌, ◌<◌, length, arith}
use Rattle.nb_cells.specs.Slots.{shown}
use Rattle.nb_cells.proofs.BatchLaws.{next_slot, later_slots, fold-rest}
use Rattle.nb_cells.proofs.slots.fill.Goals as goal

pub fill_slot-requires : goal.fill_slot-requires
fill_slot-requires c =
    let inside : c.loop-staged.staged-index < length c.loop-staged.batch = omega (arith, c.loop-staged-test.true, c.loop-staged.auto.batch) in
    next_slot c.loop-staged.slots c.loop-staged.batch _ _ inside c.loop-staged.invariant.1

pub loop-staged-preserved : goal.loop-staged-preserved
loop-staged-preserved c =
    let inside : c.loop-staged.staged-index < length c.loop-staged.batch = omega (arith, c.loop-staged-test.true, c.loop-staged.auto.batch) in (
      fold-rest (shown c.loop-staged.slots.entries) (shown c.fill_slot.new.slots.entries) c.loop-staged.batch c.loop-staged.staged-index c.staged-item.result _ c.take-bytes.result inside c.fill_slot.ensures.filled c.take-bytes.ensures.value
          ∙ c.loop-staged.invariant.0,
      later_slots c.loop-staged.slots c.fill_slot.new.slots c.loop-staged.batch c.loop-staged.staged-index c.staged-item.result _ inside c.loop-staged.invariant.1 c.fill_slot.ensures.kept,
    )
