use Rattle.std.proofs.Common.{refl}
use Rattle.nb_base.specs.Shown.{stored}
use Rattle.nb_store.proofs.BatchLaws.{clears_saga, clears_row}
use Rattle.nb_store.proofs.room.clear_one.Goals as goal

pub returns-in-Saga-clause-cleared : goal.returns-in-Saga-clause-cleared
returns-in-Saga-clause-cleared c = rw c.in-Saga.is (clears_saga c.args.version (stored c.args.tables.now) _ _ c.clear_saga.ensures refl refl)

pub returns-in-SagaGone-clause-cleared : goal.returns-in-SagaGone-clause-cleared
returns-in-SagaGone-clause-cleared c = rw c.in-SagaGone.is (clears_saga c.args.version (stored c.args.tables.now) _ _ c.clear_saga-in-SagaGone.ensures refl refl)

pub returns-in-Row-clause-cleared : goal.returns-in-Row-clause-cleared
returns-in-Row-clause-cleared c = rw c.in-Row.is (clears_row c.args.version (stored c.args.tables.now) _ _ c.clear_row.ensures refl refl)

pub returns-in-RowGone-clause-cleared : goal.returns-in-RowGone-clause-cleared
returns-in-RowGone-clause-cleared c = rw c.in-RowGone.is (clears_row c.args.version (stored c.args.tables.now) _ _ c.clear_row-in-RowGone.ensures refl refl)
