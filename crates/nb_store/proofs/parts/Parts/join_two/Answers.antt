use Rattle.nb_store.proofs.OpenLaws.{fault_first, both_read}
use Rattle.nb_store.proofs.parts.Parts.join_two.Goals as goal

pub returns-in-Ok : goal.returns-in-Ok
returns-in-Ok c = both_read c.args.self.now c.join_all.new.self c.join_all-in-Ok.new.self c.args.first.now c.args.second.now c.join_all-in-Ok.result c.in-Ok.ensures c.join_all-in-Ok.ensures

pub returns-in-Err : goal.returns-in-Err
returns-in-Err c = fault_first c.args.self.now c.join_all.new.self c.join_all.new.self c.args.first.now c.args.second.now c.in-Err.fault c.in-Err.ensures
