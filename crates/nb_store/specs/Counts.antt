-- The number of commits read from its cell.
use Rattle.std.specs.Prelude.{◌==◌, ℕ, List, [], ◌∷◌, if◌then◌else◌, Option, None}
use Rattle.nb_envelope.specs.Cells.{u64_in, whole}

-- format 1 and the number
unfoldable pub count_in : List ℕ → Option ℕ
count_in [] = None
count_in (format ∷ rest) = if format == 1 then whole u64_in rest else None
