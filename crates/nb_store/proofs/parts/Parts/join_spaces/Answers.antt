use Rattle.nb_store.proofs.OpenLaws.{fault_first, both_read}
use Rattle.std.proofs.Common.{◌++◌}
use Rattle.nb_store.proofs.parts.Parts.join_spaces.Goals as goal

pub returns-in-Ok : goal.returns-in-Ok
returns-in-Ok c =
    both_read c.args.self.now c.join_two.new.self c.join_two-in-Ok.new.self (c.args.cells.now.counts ++ c.args.cells.now.sagas) (c.args.cells.now.rows ++ c.args.cells.now.records) c.join_two-in-Ok.result c.in-Ok.ensures
    c.join_two-in-Ok.ensures

pub returns-in-Err : goal.returns-in-Err
returns-in-Err c =
    fault_first c.args.self.now c.join_two.new.self c.join_two.new.self (c.args.cells.now.counts ++ c.args.cells.now.sagas) (c.args.cells.now.rows ++ c.args.cells.now.records) c.in-Err.fault c.in-Err.ensures
