use Rattle.nb_saga_store.proofs.ReadLaws.{read_row-found, read_row-only, read_row-damaged}
use Rattle.nb_saga_store.proofs.read.read_row.Goals as goal

pub returns-clause-found : goal.returns-clause-found
returns-clause-found c =
    read_row-found c.args.cell.now c.row_under.result c.if-cell-ne-ROWS.false (rw (c.as_slice.ensures.value, c.as_slice-2.ensures.value) at c.row_under.ensures.bytes) c.as_slice.ensures.short
    (rw (c.as_slice.ensures.value, c.as_slice-2.ensures.value) at c.row_under.ensures.given)

pub returns-clause-only : goal.returns-clause-only
returns-clause-only c = read_row-only c.args.cell.now c.row_under.result (rw (c.as_slice.ensures.value, c.as_slice-2.ensures.value) at c.row_under.ensures.given)

pub returns-clause-damaged : goal.returns-clause-damaged
returns-clause-damaged c = read_row-damaged c.args.cell.now c.row_under.result (rw (c.as_slice.ensures.value, c.as_slice-2.ensures.value) at c.row_under.ensures.given)
