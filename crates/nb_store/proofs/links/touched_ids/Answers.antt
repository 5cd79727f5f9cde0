use Rattle.std.proofs.Common.{◌∙◌, arith}
use Rattle.nb_store.proofs.LinkLaws.{ids_next, ids_end}
use Rattle.nb_store.proofs.links.touched_ids.Goals as goal

pub loop-i-preserved : goal.loop-i-preserved
loop-i-preserved c = c.in_ok-add_ids.ensures ∙ ids_next c.args.sagas.now c.args.writes.now c.loop-i.i c.at.result.now c.loop-i.names c.at.ensures c.loop-i.invariant

pub returns : goal.returns
returns c = ids_end c.args.sagas.now c.args.writes.now c.loop-i.i c.loop-i.names (omega arith) c.loop-i.invariant
