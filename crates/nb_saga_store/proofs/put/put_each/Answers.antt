use Rattle.nb_envelope.proofs.WriteLaws.{Wrote-next}
use Rattle.nb_saga_store.proofs.put.put_each.Goals as goal

pub loop-i-preserved : goal.loop-i-preserved
loop-i-preserved c = Wrote-next _ _ _ _ _ _ _ _ c.loop-i.invariant c.at.ensures c.in_ok-put_field.ensures.bytes c.in_ok-put_field.ensures.fits
