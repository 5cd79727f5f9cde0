use Rattle.nb_saga_store.proofs.ReadLaws.{read_saga-found, read_saga-only, read_saga-damaged}
use Rattle.nb_saga_store.proofs.read.read_saga.Goals as goal

pub returns-clause-found : goal.returns-clause-found
returns-clause-found c =
    read_saga-found c.args.cell.now c.saga_under.result c.if-cell-ne-SAGAS.false (rw (c.as_slice.ensures.value, c.as_slice-2.ensures.value) at c.saga_under.ensures.bytes)
    (rw (c.as_slice.ensures.value, c.as_slice-2.ensures.value) at c.saga_under.ensures.given)

pub returns-clause-only : goal.returns-clause-only
returns-clause-only c = read_saga-only c.args.cell.now c.saga_under.result (rw (c.as_slice.ensures.value, c.as_slice-2.ensures.value) at c.saga_under.ensures.given)

pub returns-clause-damaged : goal.returns-clause-damaged
returns-clause-damaged c = read_saga-damaged c.args.cell.now c.saga_under.result (rw (c.as_slice.ensures.value, c.as_slice-2.ensures.value) at c.saga_under.ensures.given)
