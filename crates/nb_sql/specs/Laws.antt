-- A database tells one map.
use Rattle.std.specs.Prelude.{◌≡◌, List, ℕ, Option, Some, None, refl}
use Rattle.std.specs.Coded.{coded_option, coded_list, coded_ℕ}
use Rattle.std.proofs.Common.{sym}
use Rattle.std.proofs.Math.Logic.{∥∥₁_elim}
use base.Stored.{Coded-set}
use Rattle.sqlite.specs.Order.{Row}
use Rattle.sqlite.specs.Tree.{Trees}
use Rattle.sqlite.specs.State.{HasCleanDisk}
use Rattle.sqlite.specs.Held.{Held, state}
use Rattle.sqlite_trees.specs.View.{IsClean}
use Rattle.sqlite_trees.specs.declared.store.Store.{Ghosts}
use Rattle.nb_cells.specs.Cells.{CellMap, AreAlike}
use Rattle.nb_sql.specs.Held.{Tells, Shows}

options_agree : (m n : Option (List ℕ)) → ((b : List ℕ) → m ≡ Some b → n ≡ Some b) → ((b : List ℕ) → n ≡ Some b → m ≡ Some b) → m ≡ n
options_agree (Some b) n to from = sym (to b refl)
options_agree None None to from = refl
options_agree None (Some b) to from = from b refl

-- the rows show one map
pub shows_one : (rows : List Row) (m n : CellMap) → Shows rows m → Shows rows n → AreAlike m n
shows_one rows m n p q space key = options_agree (m space key) (n space key) (λ b is. let it = p.complete space key b is in q.sound it.0 space key b it.1 it.2) (λ b is. let it = q.complete space key b is in p.sound it.0 space key b it.1 it.2)

-- what a crash leaves shows each map that the database tells
pub tells_one : {S : Type 0} (g : Ghosts S) (survives : (s : S) → IsClean (g.view s) → ∥ ((db : Trees) × g.recovers s db) ∥₁) (h : Held S) (m n : CellMap) → HasCleanDisk (state g h) → Tells (state g h) m → Tells (state g h) n → AreAlike m n
tells_one g survives h m n clean p q space key =
    ∥∥₁_elim (survives h.store clean) (Coded-set (coded_option (coded_list coded_ℕ)) (m space key) (n space key)) (λ it. shows_one (it.0 0) m n (p.images it.0 it.1).shows (q.images it.0 it.1).shows space key)
