-- What a call that changes the post makes of the store of cells.
use Rattle.std.specs.Prelude.{◌≡◌, ◌⊎◌, ℕ, ◌≤◌, List, OnOk, Result, Err}
use Rattle.nb_base.specs.Causes.{Rose}
use Rattle.nb_base.specs.declared.tables.PostState.{PostState}
use Rattle.nb_cells.specs.Cells.{CellMap, changed}
use Rattle.nb_cells.specs.declared.change.Change.{Change}
use Rattle.nb_queue.specs.Maps.{HasCells, Shows}
use Rattle.nb_queue.specs.declared.fault.PostFault.{PostFault}
use Rattle.nb_queue.specs.declared.fault.PostFault.TheVariants.{Failed, Damaged, Spent, NoMemory}

-- the changes make the cells of the one post those of the other
abbrev pub Leads : List Change → PostState → PostState → Type 0
Leads changes before after = (m : CellMap) → HasCells m before → HasCells (changed changes m) after

-- Where the store told the cells of the post before, and is honest: after Ok it tells the cells of the post after, and
-- they are the one image; after a refusal it tells what it told, and only after a failure the cells of the post after
-- may be an image beside the old ones.
pub record Applied {C T : Type 0} (honest : C → Type 0) (now images : C → CellMap → Type 0) (firm : C → Type 0) (old new : C) (before after : PostState) (result : Result T PostFault) : Type 0 where
  pub honest_before : honest new → honest old
  pub ok : honest new → firm old → Shows now old before → OnOk result (Shows now new after)
  pub ok_firm : honest new → firm old → OnOk result (firm new)
  pub ok_images : honest new → firm old → Shows now old before → (n : CellMap) → images new n → OnOk result (HasCells n after)
  pub no_memory : honest new → firm old → Shows now old before → result ≡ Err NoMemory → Shows now new before
  pub no_memory_firm : honest new → firm old → result ≡ Err NoMemory → firm new
  pub no_memory_images : honest new → result ≡ Err NoMemory → (n : CellMap) → images new n → images old n
  pub failed : honest new → firm old → Shows now old before → result ≡ Err Failed → firm new → Shows now new before
  pub failed_images : honest new → firm old → Shows now old before → result ≡ Err Failed → (n : CellMap) → images new n → images old n ⊎ HasCells n after
  pub spent : result ≡ Err Spent → new ≡ old

-- a fault of the cells, or want of memory
abbrev pub IsOfApply : PostFault → Type 0
IsOfApply Failed = Unit {0}
IsOfApply (Damaged space key) = ⊥
IsOfApply Spent = ⊥
IsOfApply NoMemory = Unit {0}

-- the same, or that no number is left
abbrev pub IsOfPut : PostFault → Type 0
IsOfPut Failed = Unit {0}
IsOfPut (Damaged space key) = ⊥
IsOfPut Spent = Unit {0}
IsOfPut NoMemory = Unit {0}

-- the count of faults never falls, and a call that answers `Failed` has raised it
pub record IsCounted {T : Type 0} (before now : ℕ) (result : Result T PostFault) : Type 0 where
  pub later : before ≤ now
  pub failed : result ≡ Err Failed → Rose before now
