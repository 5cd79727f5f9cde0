use Rattle.std.proofs.Common.{refl}
use Rattle.nb_base.specs.Shown.{stored}
use Rattle.nb_store.proofs.SeenLaws.{seen-next}
use Rattle.nb_store.proofs.kept.Kept.read.Goals as goal

pub loop-i-preserved : goal.loop-i-preserved
loop-i-preserved c =
    rw c.in_ok-push.ensures.ok
    (seen-next (stored c.args.self.now) c.args.keys.now c.loop-i.i c.at.result.now _ c.loop-i.reads c.loop-i.invariant c.at.ensures (rw (c.in_ok-seen.ensures, c.in_ok-key.ensures) refl))
