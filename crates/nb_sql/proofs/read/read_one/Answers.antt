use Rattle.nb_sql.proofs.CompileLemmas.{get_plain, unlisted}
use Rattle.nb_sql.proofs.ReadLemmas.{gets}
use Rattle.nb_sql.proofs.read.read_one.Goals as goal

pub read_all-requires-clause-plain : goal.read_all-requires-clause-plain
read_all-requires-clause-plain g c = get_plain

pub read_all-requires-clause-unlisted : goal.read_all-requires-clause-unlisted
read_all-requires-clause-unlisted g c = unlisted.0

pub returns-clause-ok : goal.returns-clause-ok
returns-clause-ok g c m clean tells =
    let read = rw (c.params-to_sql.ensures, c.params-to_sql-2.ensures, c.from.ensures) at (c.in_ok-rows.ensures.ok m clean tells) in
    gets g.S.Store g.met.S.Store.stays c.args.conn.now m tells c.args.space c.args.key.now c.in_ok-rows.rows.items c.first_bytes.result read.0 read.1 (rw c.as_slice.ensures.value at c.first_bytes.ensures)
