-- Slots for cells, of which one without bytes is no cell.
use Rattle.std.specs.Prelude.{ℕ, List, [], ◌∷◌, Option, Some, None, option_map, All, IsSome, Bool, true, ◌==◌, if◌then◌else◌}
use Rattle.std.specs.BTreeMap.{BTreeMap, get}
use Rattle.std.specs.FinMap as finite
use Rattle.nb_cells.specs.Place.{place_cmp}
use Rattle.nb_cells.specs.Table.{ByPlace, with_slot, cell_of}
use Rattle.nb_cells.specs.declared.cell.Cell.{Cell}
use Rattle.nb_cells.specs.declared.change.Change.{Change}
use Rattle.nb_cells.specs.declared.change.Change.TheVariants.{Put, Erase}
use Rattle.nb_cells.specs.declared.place.Place.{Place}
use Rattle.nb_cells.specs.declared.slots.Staged.{Staged}

-- the cells in the slots
abbrev pub shown : List (Place × Option (List ℕ)) → ByPlace
shown [] = finite.empty
shown (e ∷ es) = with_slot (shown es) e.0 e.1

-- a change, made ready
abbrev pub staged_of : Change → Staged
staged_of (Put space key bytes) = record { place = record { space = space; key = key }; bytes = Some bytes }
staged_of (Erase space key) = record { place = record { space = space; key = key }; bytes = None }

-- the cells after a change that was made ready
abbrev pub with_staged : ByPlace → Staged → ByPlace
with_staged t s = with_slot t s.place s.bytes

-- the place has a slot
abbrev pub HasSlot : BTreeMap Place (Option (List ℕ)) → Place → Type 0
HasSlot slots place = IsSome (get place_cmp slots place)

-- each change has its slot
abbrev pub HaveSlots : BTreeMap Place (Option (List ℕ)) → List Staged → Type 0
HaveSlots slots batch = All (λ s. HasSlot slots s.place) batch

-- no slot was taken away
abbrev pub KeepsSlots : BTreeMap Place (Option (List ℕ)) → BTreeMap Place (Option (List ℕ)) → Type 0
KeepsSlots old new = (place : Place) → HasSlot old place → HasSlot new place

-- the space is the one that is asked for, or all are
abbrev pub is_asked : Option ℕ → ℕ → Bool
is_asked None space = true
is_asked (Some asked) space = space == asked

-- the cell in a slot, where its space is asked for
abbrev pub cell_in : Option ℕ → Place × Option (List ℕ) → Option Cell
cell_in asked e = if is_asked asked e.0.space then option_map (λ bytes. cell_of (e.0, bytes)) e.1 else None
