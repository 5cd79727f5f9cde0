-- A map of cells, and what changes make of it.
use Rattle.std.specs.Prelude.{◌≡◌, ℕ, ◌≤◌, List, ◌∷◌, map, fold, All, Contains, Option, Some, None, if◌then◌else◌, ◌&&◌, ◌==◌, bytes_eq}
use Rattle.std.specs.List.{IsDistinct}
use Rattle.std.specs.List.Sorted.{IsStrictlySortedBy}
use Rattle.std.specs.Ordering.{nat_cmp}
use Rattle.std.specs.Cmp.Lexicographic.{slice_cmp}
use Rattle.nb_cells.specs.declared.cell.Cell.{Cell}
use Rattle.nb_cells.specs.declared.change.Change.{Change}
use Rattle.nb_cells.specs.declared.change.Change.TheVariants.{Put, Erase}

-- the bytes of each cell, by its space and its key
abbrev pub CellMap : Type 0
CellMap = ℕ → List ℕ → Option (List ℕ)

-- the map with this at one place
abbrev pub set_at : CellMap → ℕ → List ℕ → Option (List ℕ) → CellMap
set_at m space key new = λ s k. if s == space && bytes_eq k key then new else m s k

-- the map after a change
abbrev pub with_change : CellMap → Change → CellMap
with_change m (Put space key bytes) = set_at m space key (Some bytes)
with_change m (Erase space key) = set_at m space key None

-- the map after all of the changes
abbrev pub changed : List Change → CellMap → CellMap
changed changes m = fold with_change m changes

-- the two have the same cells
abbrev pub AreAlike : CellMap → CellMap → Type 0
AreAlike m n = (space : ℕ) (key : List ℕ) → m space key ≡ n space key

-- a space is a number from 1 to 4
abbrev pub IsSpace : ℕ → Type 0
IsSpace n = (1 ≤ n) × (n ≤ 4)

-- the space in which a change is
abbrev pub space_of : Change → ℕ
space_of (Put space key bytes) = space
space_of (Erase space key) = space

-- where a change is, as one list: the space, and then the key
abbrev pub place_of : Change → List ℕ
place_of (Put space key bytes) = space ∷ key
place_of (Erase space key) = space ∷ key

-- each change is in a space
abbrev pub AreInSpaces : List Change → Type 0
AreInSpaces changes = All (λ c. IsSpace (space_of c)) changes

-- no two changes are at one place
abbrev pub AreDistinct : List Change → Type 0
AreDistinct changes = IsDistinct bytes_eq (map place_of changes)

-- the cells are those that the map has in the space, each once, with keys that ascend by their bytes
pub record Scans (m : CellMap) (space : ℕ) (cells : List Cell) : Type 0 where
  pub ascending : IsStrictlySortedBy (slice_cmp nat_cmp) (map (λ c. c.key) cells)
  pub sound : All (λ c. (c.space ≡ space) × (m space c.key ≡ Some c.bytes)) cells
  pub complete : (key bytes : List ℕ) → m space key ≡ Some bytes → Contains cells (record { space = space; key = key; bytes = bytes })
