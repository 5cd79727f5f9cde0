use Rattle.std.proofs.Common.{◌≢◌, []}
use Rattle.nb_base.specs.declared.entry.Op.{Op}
use Rattle.nb_envelope.proofs.WriteLaws.{Wrote-next}
use Rattle.nb_outbox.proofs.ItemsLaws.{all_at}
use Rattle.nb_outbox.proofs.put.put_ops.Goals as goal

pub put_op-requires : goal.put_op-requires
put_op-requires c = all_at (λ (op : Op). op.queue ≢ []) c.args.ops.now c.loop-i.i c.at.result.now c.requires c.at.ensures

pub loop-i-preserved : goal.loop-i-preserved
loop-i-preserved c = Wrote-next _ _ _ _ _ _ _ _ c.loop-i.invariant c.at.ensures c.in_ok-put_op.ensures.bytes c.in_ok-put_op.ensures.fits
