-- Places of cells, by space and then by key.
use Rattle.std.specs.Prelude.{ℕ, List, ◌∷◌}
use Rattle.std.specs.declared.cmp.Ordering.{Ordering}
use Rattle.std.specs.Ordering.{nat_cmp, on}
use Rattle.std.specs.Cmp.Lexicographic.{slice_cmp}
use Rattle.nb_cells.specs.declared.place.Place.{Place}

-- the place as one list: the space, and then the key
abbrev pub place_bytes : Place → List ℕ
place_bytes p = p.space ∷ p.key

-- the order of places
abbrev pub place_cmp : Place → Place → Ordering
place_cmp = on place_bytes (slice_cmp nat_cmp)
