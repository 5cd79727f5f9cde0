use Rattle.nb_sql.proofs.FileLemmas.{has_told}
use Rattle.nb_sql.proofs.sql_cells.SqlCells.adopt.Goals as goal

pub returns-in-Ok-clause-found : goal.returns-in-Ok-clause-found
returns-in-Ok-clause-found g c m clean has = c.in-Ok.ensures.again m clean (has_told g.S.Store g.met.S.Store.settled c.args.conn m has) has.is_open
