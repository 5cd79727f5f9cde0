use Rattle.nb_sql.proofs.CompileLemmas.{scan_plain, unlisted}
use Rattle.nb_sql.proofs.ScanLemmas.{scans_all}
use Rattle.nb_sql.proofs.read.read_space.Goals as goal

pub read_all-requires-clause-plain : goal.read_all-requires-clause-plain
read_all-requires-clause-plain g c = scan_plain

pub read_all-requires-clause-unlisted : goal.read_all-requires-clause-unlisted
read_all-requires-clause-unlisted g c = unlisted.1

pub returns-clause-ok : goal.returns-clause-ok
returns-clause-ok g c m clean tells =
    let read = rw (c.params-to_sql.ensures, c.from.ensures) at (c.in_ok-rows.ensures.ok m clean tells) in
    scans_all g.S.Store g.met.S.Store.stays c.args.conn.now m tells c.args.space c.in_ok-rows.rows.items c.cells_of.result read.0 read.1 (rw c.as_slice.ensures.value at c.cells_of.ensures)
