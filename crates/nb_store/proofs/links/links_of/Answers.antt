use Rattle.std.proofs.Common.{◌∙◌, arith}
use Rattle.nb_store.proofs.LinkLaws.{links_next, links_end}
use Rattle.nb_store.proofs.links.links_of.Goals as goal

pub loop-i-preserved : goal.loop-i-preserved
loop-i-preserved c = c.in_ok-add_link.ensures ∙ links_next c.args.writes.now c.loop-i.i c.at.result.now c.loop-i.links c.at.ensures c.loop-i.invariant

pub returns : goal.returns
returns c = links_end c.args.writes.now c.loop-i.i c.loop-i.links (omega arith) c.loop-i.invariant
