use Rattle.std.proofs.Common.{◌∙◌}
use Rattle.nb_saga_store.specs.Writes.{written_of}
use Rattle.nb_store.proofs.BatchLaws.{map_next}
use Rattle.nb_store.proofs.batch.written.Goals as goal

pub loop-i-preserved : goal.loop-i-preserved
loop-i-preserved c = c.in_ok-push.ensures.ok ∙ map_next (written_of c.args.endpoint.now c.args.n) c.args.writes.now c.loop-i.i c.at.result.now _ c.loop-i.items c.at.ensures c.loop-i.invariant c.in_ok-of.ensures
