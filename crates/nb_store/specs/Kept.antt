-- What is kept of the tables between calls.
use Rattle.std.specs.Prelude.{◌≡◌, ℕ, List, Some}
use Rattle.std.specs.FinMap as map
use Rattle.nb_base.specs.Orders.{ByName, BySaga}
use Rattle.nb_base.specs.Shown.{stored}
use Rattle.nb_base.specs.Sound.{IsSoundTables}
use Rattle.nb_base.specs.declared.entry.OutboxRow.{OutboxRow}
use Rattle.nb_base.specs.declared.saga_key.SagaKey.{SagaKey}
use Rattle.nb_base.specs.declared.saga_row.SagaRow.{SagaRow}
use Rattle.nb_base.specs.declared.tables.Tables.{Tables}
use Rattle.nb_outbox.specs.Spelled.{IsId, IsRecord}
use Rattle.nb_saga_store.specs.Maps.{Each, AreSpelled}

abbrev pub IsRecordAt : List ℕ → OutboxRow → Type 0
IsRecordAt id r = IsId id × IsRecord r

-- the place of each saga, and of no other, stands under its id
pub record IsIndex (sagas : BySaga SagaRow) (ids : ByName SagaKey) : Type 0 where
  pub found : (place : SagaKey) (row : SagaRow) → map.get sagas place ≡ Some row → map.get ids row.id ≡ Some place
  pub only : (id : List ℕ) (place : SagaKey) → map.get ids id ≡ Some place → (row : SagaRow) × (map.get sagas place ≡ Some row) × (row.id ≡ id)

-- sound tables, of which each part has a spelling, and the index of the sagas
pub record IsKept (t : Tables) (ids : ByName SagaKey) : Type 0 where
  pub sound : IsSoundTables t
  pub spelled : AreSpelled (stored t)
  pub records : Each IsRecordAt (map.entries t.outbox)
  pub index : IsIndex t.sagas ids
