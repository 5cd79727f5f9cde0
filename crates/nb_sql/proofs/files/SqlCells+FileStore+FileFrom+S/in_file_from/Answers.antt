use Rattle.sqlite.specs.WalFiles.{image_at}
use Rattle.nb_sql.proofs.FileLemmas.{opened_cells, opened_new}
use Rattle.nb_sql.proofs.files.SqlCells+FileStore+FileFrom+S.in_file_from.Goals as goal

pub returns-in-Ok-clause-found : goal.returns-in-Ok-clause-found
returns-in-Ok-clause-found g c m holds =
    opened_cells c.adopt.result (λ x. x.conn) c.in-Ok.conn (image_at g.S.Start) m holds c.in-Ok.ensures.opened c.in-Ok.ensures.found c.adopt.ensures.clean (c.adopt.ensures.found m)

pub returns-in-Ok-clause-fresh : goal.returns-in-Ok-clause-fresh
returns-in-Ok-clause-fresh g c held =
    opened_new c.adopt.result (λ x. x.conn) c.in-Ok.conn (image_at g.S.Start) held c.in-Ok.ensures.opened c.in-Ok.ensures.found c.adopt.ensures.clean c.adopt.ensures.fresh
