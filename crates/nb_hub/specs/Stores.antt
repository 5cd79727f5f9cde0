-- What the two stores of a hub tell, and what they may be found with after a stop.
use Rattle.std.specs.Prelude.{◌≡◌, ◌⊎◌, Option, Some, None}
use Rattle.nb_base.specs.declared.entry.Which.{Which}
use Rattle.nb_base.specs.declared.entry.Which.TheVariants.{Base, Post}
use Rattle.nb_cells.specs.Cells.{CellMap}
use Rattle.nb_core.specs.Legal.{IsOfWorker}
use Rattle.nb_core.specs.Past.{Fixed, constants}
use Rattle.nb_core.specs.declared.event.Event.{Event}
use Rattle.nb_core.specs.Step.{Step}
use Rattle.nb_core.specs.declared.state.State.{State}
use Rattle.nb_hub.specs.Kept.{failed_store}
use Rattle.nb_hub.specs.Ledgers.{Past, state_at}
use Rattle.nb_queue.specs.Maps as queue
use Rattle.nb_store.specs.CellMaps as table

-- the store tells cells of which this holds, and they are its one image
pub record Holds {C : Type 0} (now images : C → CellMap → Type 0) (firm : C → Type 0) (store : C) (Has : CellMap → Type 0) : Type 0 where
  pub firm_is : firm store
  pub map : CellMap
  pub told : now store map
  pub has : Has map
  pub only : (n : CellMap) → images store n → Has n

-- a call of the store failed: where it tells anything, it tells what it told, and each image is that or what was to be
pub record MayHold {C : Type 0} (now images : C → CellMap → Type 0) (firm : C → Type 0) (store : C) (Has Next : CellMap → Type 0) : Type 0 where
  pub told : firm store → (m : CellMap) × now store m × Has m
  pub each : (n : CellMap) → images store n → Has n ⊎ Next n

-- an event that may come next, and the state after it
pub record MayCome (f : Fixed) (s t : State) : Type 0 where
  pub event : Event
  pub worker : IsOfWorker f.opening.workers event
  pub step : Step (constants f) s event t

-- of the store of tables: where its call failed, an event was under way that changes no queue
abbrev pub BaseHolds : {C : Type 0} → (C → CellMap → Type 0) → (C → CellMap → Type 0) → (C → Type 0) → C → Fixed → State → Option Which → Type 0
BaseHolds now images firm store f s None = Holds now images firm store (λ m. table.HasCells m s.tables)
BaseHolds now images firm store f s (Some Post) = Holds now images firm store (λ m. table.HasCells m s.tables)
BaseHolds now images firm store f s (Some Base) =
    (t : State) × MayCome f s t × (t.post ≡ s.post) × MayHold now images firm store (λ m. table.HasCells m s.tables) (λ m. table.HasCells m t.tables)

-- of the store of queues: where its call failed, an event was under way that changes no table
abbrev pub PostHolds : {C : Type 0} → (C → CellMap → Type 0) → (C → CellMap → Type 0) → (C → Type 0) → C → Fixed → State → Option Which → Type 0
PostHolds now images firm store f s None = Holds now images firm store (λ m. queue.HasCells m s.post)
PostHolds now images firm store f s (Some Base) = Holds now images firm store (λ m. queue.HasCells m s.post)
PostHolds now images firm store f s (Some Post) =
    (t : State) × MayCome f s t × (t.tables ≡ s.tables) × MayHold now images firm store (λ m. queue.HasCells m s.post) (λ m. queue.HasCells m t.post)

-- each store that is honest has the cells of its part of the state; a failed one has them or those after one more event
abbrev pub BaseStands : {C : Type 0} → (C → Type 0) → (C → CellMap → Type 0) → (C → CellMap → Type 0) → (C → Type 0) → C → Past → Type 0
BaseStands honest now images firm store p = honest store → BaseHolds now images firm store p.fixed (state_at p) (failed_store p.events)

abbrev pub PostStands : {C : Type 0} → (C → Type 0) → (C → CellMap → Type 0) → (C → CellMap → Type 0) → (C → Type 0) → C → Past → Type 0
PostStands honest now images firm store p = honest store → PostHolds now images firm store p.fixed (state_at p) (failed_store p.events)
