-- Cells in the order of their places, and what changes make of them.
use Rattle.std.specs.Prelude.{ℕ, List, map, fold, filter, ◌==◌, Option, Some, None, refl}
use Rattle.std.specs.Coded.{Coded, code_by, coded×, coded_ℕ, coded_list}
use Rattle.std.specs.FinMap as finite
use Rattle.nb_cells.specs.Cells.{CellMap}
use Rattle.nb_cells.specs.Place.{place_cmp}
use Rattle.nb_cells.specs.declared.cell.Cell.{Cell}
use Rattle.nb_cells.specs.declared.change.Change.{Change}
use Rattle.nb_cells.specs.declared.change.Change.TheVariants.{Put, Erase}
use Rattle.nb_cells.specs.declared.place.Place.{Place}

-- the bytes of the cells, by their places
abbrev pub ByPlace : Type 0
ByPlace = finite.FinMap place_cmp (List ℕ)

-- a place is stored as the pair of its fields
abbrev pub place_code : Coded Place
place_code = code_by (ℕ × List ℕ) (coded× coded_ℕ (coded_list coded_ℕ)) (λ p. (p.space, p.key)) (λ p. record { space = p.0; key = p.1 }) (λ _. refl)

-- the code of cells by their places
abbrev pub by_place_code : Coded ByPlace
by_place_code = finite.code place_code (coded_list coded_ℕ)

-- the cells as a map
abbrev pub told : ByPlace → CellMap
told t space key = finite.get t (record { space = space; key = key })

-- the cells with these bytes at a place, or with none there
abbrev pub with_slot : ByPlace → Place → Option (List ℕ) → ByPlace
with_slot t p (Some bytes) = finite.insert t p bytes
with_slot t p None = finite.remove t p

-- the cells after a change
abbrev pub with_written : ByPlace → Change → ByPlace
with_written t (Put space key bytes) = with_slot t (record { space = space; key = key }) (Some bytes)
with_written t (Erase space key) = with_slot t (record { space = space; key = key }) None

-- the cells after all of the changes
abbrev pub written : List Change → ByPlace → ByPlace
written changes t = fold with_written t changes

-- the cell at a place
abbrev pub cell_of : Place × List ℕ → Cell
cell_of e = record { space = e.0.space; key = e.0.key; bytes = e.1 }

-- the cells by ascending places
abbrev pub cells_of : ByPlace → List Cell
cells_of t = map cell_of (finite.entries t)

-- the cells of one space, by ascending keys
abbrev pub cells_in : ℕ → ByPlace → List Cell
cells_in space t = filter (λ c. c.space == space) (cells_of t)

-- the cells with one more, which stands for the one that was at its place
abbrev pub with_cell : ByPlace → Cell → ByPlace
with_cell t c = with_slot t (record { space = c.space; key = c.key }) (Some c.bytes)

-- the cells of a list, of which a later one stands for an earlier one at its place
abbrev pub table_of : List Cell → ByPlace
table_of cells = fold with_cell finite.empty cells

-- the cells of one space, or all of them
abbrev pub listed : Option ℕ → ByPlace → List Cell
listed None t = cells_of t
listed (Some space) t = cells_in space t
