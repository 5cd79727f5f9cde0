use Rattle.sqlite.specs.Held.{state}
use Rattle.nb_sql.proofs.CreateLemmas.{creates, creates_again}
use Rattle.nb_sql.proofs.table.make_table.Goals as goal

pub returns-clause-fresh : goal.returns-clause-fresh
returns-clause-fresh g c clean none = creates g.S.Store g.met.S.Store.settled (state g.S.Store c.args.conn.now) c.execute.new.self c.execute.result c.requires.idle none (c.execute.ensures.runs clean)

pub returns-clause-again : goal.returns-clause-again
returns-clause-again g c m clean tells opened = creates_again g.S.Store g.met.S.Store.settled g.met.S.Store.stays c.args.conn.now c.execute.new.self m c.execute.result tells opened (c.execute.ensures.runs clean)
