-- Tables as maps of cells.
use Rattle.std.specs.Prelude.{ℕ, List, [], ◌∷◌, cond, ◌&&◌, ◌==◌, Option, Some, None, bytes_eq}
use Rattle.std.proofs.Common.{◌∙◌, sym, ap}
use Rattle.std.specs.Cmp.Lexicographic.{texts_ties}
use Rattle.nb_cells.specs.Cells.{CellMap, set_at, with_change, changed, AreAlike}
use Rattle.nb_cells.specs.Table.{ByPlace, told, with_slot, with_written, written}
use Rattle.nb_cells.specs.declared.change.Change.{Change}
use Rattle.nb_cells.specs.declared.change.Change.TheVariants.{Put, Erase}
use Rattle.nb_cells.proofs.SlotLaws.{get-with_slot}

-- a map with one place changed is alike to the table with it changed
told-with_slot : (t : ByPlace) (m : CellMap) (space : ℕ) (key : List ℕ) (o : Option (List ℕ)) → AreAlike (told t) m → AreAlike (told (with_slot t (record { space = space; key = key }) o)) (set_at m space key o)
told-with_slot t m space key o alike s k =
    get-with_slot t (record { space = space; key = key }) o (record { space = s; key = k })
    ∙ ap (λ b. cond b o (told t s k)) (sym (texts_ties (s ∷ k) (space ∷ key)))
    ∙ ap (cond (s == space && bytes_eq k key) o) (alike s k)

told-with_written : (t : ByPlace) (m : CellMap) (change : Change) → AreAlike (told t) m → AreAlike (told (with_written t change)) (with_change m change)
told-with_written t m (Put space key bytes) alike = told-with_slot t m space key (Some bytes) alike
told-with_written t m (Erase space key) alike = told-with_slot t m space key None alike

-- what changes make of a table, they make of its map
pub told-written : (changes : List Change) (t : ByPlace) (m : CellMap) → AreAlike (told t) m → AreAlike (told (written changes t)) (changed changes m)
told-written [] t m alike = alike
told-written (change ∷ changes) t m alike = told-written changes (with_written t change) (with_change m change) (told-with_written t m change alike)
