-- What the rows of a scan show.
use Rattle.std.specs.Prelude.{◌≡◌, ℕ, List, map, All}
use Rattle.sqlite.specs.declared.types.Value.{Value}
use Rattle.sqlite.specs.declared.types.Value.TheVariants.{Blob}
use Rattle.sqlite.specs.Order.{Row, column}
use Rattle.nb_cells.specs.declared.cell.Cell.{Cell}

-- the two columns of a row
abbrev pub shown_in : Row → Value × Value
shown_in r = (column r 0, column r 1)

-- the key and the bytes of a cell, as a row shows them
abbrev pub shown_of : Cell → Value × Value
shown_of c = (Blob c.key, Blob c.bytes)

-- the rows show these cells of the space, in this order
pub record AreShown (space : ℕ) (rows : List Row) (cells : List Cell) : Type 0 where
  pub placed : All (λ c. c.space ≡ space) cells
  pub same : map shown_in rows ≡ map shown_of cells
