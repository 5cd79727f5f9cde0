-- Where the names stand that `let`s made.
use Rattle.std.specs.Prelude.{◌≡◌, ℕ, suc, List, [], ◌∷◌, Bool, bytes_eq, if◌then◌else◌, Option, Some, None, option_map, slice_get}
use Rattle.std.specs.FinMap as map
use Rattle.nb_base.specs.Orders.{ByName}
use Rattle.nb_script.specs.declared.item.FieldKind.{FieldKind}
use Rattle.nb_check.specs.declared.sight.Local.{Local}

-- the place of the first of this name
abbrev pub place_of : List ℕ → List Local → Option ℕ
place_of name [] = None
place_of name (l ∷ ls) = if bytes_eq l.name name then Some 0 else option_map suc (place_of name ls)

-- under each name that stands in the list its place
abbrev pub ArePlaces : ByName ℕ → List Local → Type 0
ArePlaces places ls = (name : List ℕ) (i : ℕ) → place_of name ls ≡ Some i → map.get places name ≡ Some i

abbrev pub place_if : Bool → ByName ℕ → List ℕ → ℕ → ByName ℕ
place_if new places name i = if new then map.insert places name i else places

abbrev pub kind_if : List ℕ → Option Local → Option (Option FieldKind)
kind_if name None = None
kind_if name (Some l) = if bytes_eq l.name name then Some l.kind else None

-- the kind of what stands at a place, if it has this name
abbrev pub kind_by : List ℕ → Option ℕ → List Local → Option (Option FieldKind)
kind_by name None ls = None
kind_by name (Some i) ls = kind_if name (slice_get ls i)
