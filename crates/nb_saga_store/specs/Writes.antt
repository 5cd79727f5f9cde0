-- What the writes of a plan leave of sagas and rows, and the changes of their cells.
use Rattle.std.specs.Prelude.{◌≤◌, ℕ, List, [], ◌∷◌, ◌++◌, map as map_list}
use Rattle.std.specs.Fmt.{decimal}
use Rattle.std.specs.FinMap as map
use Rattle.nb_base.specs.Shown.{Stored}
use Rattle.nb_base.specs.Sound.{CanCorrelate, HaveDistinctNames}
use Rattle.nb_base.specs.declared.plan.SagaRef.{SagaRef}
use Rattle.nb_base.specs.declared.plan.SagaRef.TheVariants as saga_ref
use Rattle.nb_base.specs.declared.plan.Write.{Write}
use Rattle.nb_base.specs.declared.plan.Write.TheVariants as write
use Rattle.nb_cells.specs.declared.change.Change.{Change}
use Rattle.nb_cells.specs.declared.change.Change.TheVariants.{Put, Erase}
use Rattle.nb_saga_store.specs.Spelled.{spelled_place, spelled_saga, spelled_row}
use Rattle.nb_saga_store.specs.declared.written.Written.{Written}
use Rattle.nb_saga_store.specs.declared.written.Written.TheVariants.{Saga, SagaGone, Row, RowGone}

-- the endpoint, the number of the commit and the block that made the saga, parted by slashes
abbrev pub given_id : List ℕ → ℕ → ℕ → List ℕ
given_id endpoint n block = endpoint ++ 47 ∷ decimal n ++ 47 ∷ decimal block

-- the id of a new saga, or the one that it has
abbrev pub id_of : List ℕ → ℕ → SagaRef → List ℕ
id_of endpoint n (saga_ref.New block) = given_id endpoint n block
id_of endpoint n (saga_ref.Stored id) = id

-- what a write of the commit with this number leaves
abbrev pub written_of : List ℕ → ℕ → Write → Written
written_of endpoint n (write.SagaPut saga corr revision which originator original fields) =
    Saga (record { saga = saga; corr = corr }) (record { corr = corr; id = id_of endpoint n which; version = n; revision = revision; originator = originator; original = original; fields = fields })
written_of endpoint n (write.SagaErase saga corr) = SagaGone (record { saga = saga; corr = corr })
written_of endpoint n (write.RowPut name value) = Row name (record { version = n; value = value })
written_of endpoint n (write.RowErase name) = RowGone name

-- sagas and rows with one of them written or gone
abbrev pub with_written : Stored → Written → Stored
with_written t (Saga place row) = record t { sagas = map.insert t.sagas place row }
with_written t (SagaGone place) = record t { sagas = map.remove t.sagas place }
with_written t (Row name row) = record t { rows = map.insert t.rows name row }
with_written t (RowGone name) = record t { rows = map.remove t.rows name }

-- sagas and rows after all of the writes
abbrev pub all_written : List ℕ → ℕ → Stored → List Write → Stored
all_written endpoint n t [] = t
all_written endpoint n t (w ∷ ws) = all_written endpoint n (with_written t (written_of endpoint n w)) ws

-- the change of a cell
abbrev pub change_of : Written → Change
change_of (Saga place row) = Put 2 (spelled_place place) (spelled_saga row)
change_of (SagaGone place) = Erase 2 (spelled_place place)
change_of (Row name row) = Put 3 name (spelled_row row)
change_of (RowGone name) = Erase 3 name

-- the changes of the cells that the writes change
abbrev pub changes_of : List ℕ → ℕ → List Write → List Change
changes_of endpoint n writes = map_list (λ w. change_of (written_of endpoint n w)) writes

-- a saga that is written or erased has a place, and one that is written has a spelling
abbrev pub CanWrite : Write → Type 0
CanWrite (write.SagaPut saga corr revision which originator original fields) = CanCorrelate corr × (1 ≤ revision) × HaveDistinctNames fields
CanWrite (write.SagaErase saga corr) = Unit {0}
CanWrite (write.RowPut name value) = Unit {0}
CanWrite (write.RowErase name) = Unit {0}
