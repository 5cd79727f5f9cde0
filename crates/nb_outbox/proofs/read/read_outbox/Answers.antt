use Rattle.nb_outbox.proofs.ReadLaws.{read-found, read-only, read-damaged}
use Rattle.nb_outbox.proofs.read.read_outbox.Goals as goal

pub returns-clause-found : goal.returns-clause-found
returns-clause-found c =
    read-found c.args.cell.now c.record_under.result c.if-cell-ne-OUTBOX.false (rw c.as_slice-2.ensures.value at c.record_under.ensures.bytes) c.as_slice.ensures.short
    (rw (c.as_slice.ensures.value, c.as_slice-2.ensures.value) at c.record_under.ensures.given)

pub returns-clause-only : goal.returns-clause-only
returns-clause-only c = read-only c.args.cell.now c.record_under.result (rw (c.as_slice.ensures.value, c.as_slice-2.ensures.value) at c.record_under.ensures.given)

pub returns-clause-damaged : goal.returns-clause-damaged
returns-clause-damaged c = read-damaged c.args.cell.now c.record_under.result (rw (c.as_slice.ensures.value, c.as_slice-2.ensures.value) at c.record_under.ensures.given)
