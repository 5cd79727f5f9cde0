use Rattle.nb_store.proofs.OpenLaws.{Read-next, Read-fault}
use Rattle.nb_store.proofs.parts.Parts.join_all.Goals as goal

pub returns-in-Err : goal.returns-in-Err
returns-in-Err c = Read-fault c.args.self.now c.loop-i.self c.join.new.self c.args.cells.now c.loop-i.i c.at.result.now c.in-Err.fault c.loop-i.invariant c.at.ensures c.in-Err.ensures

pub loop-i-preserved : goal.loop-i-preserved
loop-i-preserved c = Read-next c.args.self.now c.loop-i.self c.join.new.self c.args.cells.now c.loop-i.i c.at.result.now c.loop-i.invariant c.at.ensures c.in-Ok.ensures
