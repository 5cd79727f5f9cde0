use Rattle.nb_saga_store.proofs.ChangeLaws.{Made-next}
use Rattle.nb_saga_store.proofs.changes.write_changes.Goals as goal

pub loop-i-preserved : goal.loop-i-preserved
loop-i-preserved c = rw c.in_ok-push.ensures.ok (Made-next _ _ _ _ _ _ _ c.loop-i.invariant c.at.ensures c.in_ok-change.ensures.change c.in_ok-change.ensures.fits)
