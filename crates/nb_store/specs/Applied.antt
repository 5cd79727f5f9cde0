-- What a call that changes the tables makes of the store of cells.
use Rattle.std.specs.Prelude.{◌≡◌, ◌⊎◌, ℕ, ◌≤◌, List, OnOk, Result, Err}
use Rattle.nb_base.specs.Causes.{Rose}
use Rattle.nb_base.specs.declared.tables.Tables.{Tables}
use Rattle.nb_cells.specs.Cells.{CellMap, changed}
use Rattle.nb_cells.specs.declared.change.Change.{Change}
use Rattle.nb_store.specs.CellMaps.{HasCells, Shows}
use Rattle.nb_store.specs.declared.fault.StoreFault.{StoreFault}
use Rattle.nb_store.specs.declared.fault.StoreFault.TheVariants.{Failed, Damaged, Spent, NoMemory}

-- the changes make the cells of the one tables those of the other
abbrev pub Leads : List Change → Tables → Tables → Type 0
Leads changes before after = (m : CellMap) → HasCells m before → HasCells (changed changes m) after

-- Where the store told the cells of the tables before, and is honest: after Ok it tells the cells of the tables after,
-- and they are the one image; after a refusal it tells what it told, and only after a failure the cells of the tables
-- after may be an image beside the old ones.
pub record Applied {C T : Type 0} (honest : C → Type 0) (now images : C → CellMap → Type 0) (firm : C → Type 0) (old new : C) (before after : Tables) (result : Result T StoreFault) : Type 0 where
  pub honest_before : honest new → honest old
  pub ok : honest new → firm old → Shows now old before → OnOk result (Shows now new after)
  pub ok_firm : honest new → firm old → OnOk result (firm new)
  pub ok_images : honest new → firm old → Shows now old before → (n : CellMap) → images new n → OnOk result (HasCells n after)
  pub no_memory : honest new → firm old → Shows now old before → result ≡ Err NoMemory → Shows now new before
  pub no_memory_firm : honest new → firm old → result ≡ Err NoMemory → firm new
  pub no_memory_images : honest new → result ≡ Err NoMemory → (n : CellMap) → images new n → images old n
  pub failed : honest new → firm old → Shows now old before → result ≡ Err Failed → firm new → Shows now new before
  pub failed_images : honest new → firm old → Shows now old before → result ≡ Err Failed → (n : CellMap) → images new n → images old n ⊎ HasCells n after

-- a fault of the cells, or want of memory
abbrev pub IsOfApply : StoreFault → Type 0
IsOfApply Failed = Unit {0}
IsOfApply (Damaged space key) = ⊥
IsOfApply Spent = ⊥
IsOfApply NoMemory = Unit {0}

-- or the numbers of commits are used up
abbrev pub IsOfCommit : StoreFault → Type 0
IsOfCommit Failed = Unit {0}
IsOfCommit (Damaged space key) = ⊥
IsOfCommit Spent = Unit {0}
IsOfCommit NoMemory = Unit {0}

-- the count of faults never falls, and a call that answers `Failed` has raised it
pub record IsCounted {T : Type 0} (before now : ℕ) (result : Result T StoreFault) : Type 0 where
  pub later : before ≤ now
  pub failed : result ≡ Err Failed → Rose before now
