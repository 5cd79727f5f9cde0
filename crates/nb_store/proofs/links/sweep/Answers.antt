use Rattle.std.proofs.Common.{◌∙◌, sym, subst, take, ◌+◌, arith}
use Rattle.nb_store.specs.Batches.{AreSwept}
use Rattle.nb_store.proofs.LinkLaws.{swept_start, swept_gone, swept_stays, swept_end}
use Rattle.nb_store.proofs.links.sweep.Goals as goal
use Rattle.nb_store.proofs.links.sweep.Goals.{then-is_stale, else-is_stale}

pub loop-i-init : goal.loop-i-init
loop-i-init c = swept_start c.args.sagas.now c.args.names.now c.args.ids.now

pub loop-i-preserved : goal.loop-i-preserved
loop-i-preserved c =
    elim c.if-is_stale.branch [
      | then-is_stale w ↦
          swept_gone c.args.sagas.now c.args.names.now c.loop-i.i c.args.ids.now c.loop-i.ids c.if-is_stale.ids c.at-id.result.now c.at-id.ensures c.loop-i.invariant (c.is_stale.ensures.so w.if-is_stale.true)
          (w.ids-is ∙ w.remove.ensures)
      | else-is_stale w ↦
          subst (AreSwept c.args.sagas.now (take (c.loop-i.i + 1) c.args.names.now) c.args.ids.now) (sym w.ids-is)
          (swept_stays c.args.sagas.now c.args.names.now c.loop-i.i c.args.ids.now c.loop-i.ids c.at-id.result.now c.at-id.ensures c.loop-i.invariant (c.is_stale.ensures.not w.if-is_stale.false))
    ]

pub returns : goal.returns
returns c = swept_end c.args.sagas.now c.args.names.now c.loop-i.i c.args.ids.now c.loop-i.ids (omega arith) c.loop-i.invariant
