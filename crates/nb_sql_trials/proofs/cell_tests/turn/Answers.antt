use Rattle.std.proofs.Common.{List, ℕ, [], ◌∷◌, refl, sym, subst}
use Rattle.std.specs.Prelude.{codes}
use Rattle.std.specs.List.{IsDistinct}
use Rattle.nb_cells.specs.Cells.{AreDistinct}
use Rattle.nb_cells.specs.declared.change.Change.TheVariants.{Put, Erase}
use Rattle.nb_sql_trials.proofs.cell_tests.turn.Goals as goal

turn_distinct : (a bytes b : List ℕ) → AreDistinct (Put 1 a bytes ∷ Erase 2 b ∷ [])
unfolding IsDistinct
turn_distinct a bytes b = ((refl, tt), (tt, tt))

pub apply-requires-clause-distinct : goal.apply-requires-clause-distinct
apply-requires-clause-distinct g c = subst AreDistinct (sym c.in_ok-changes.ensures) (turn_distinct (codes "a") (codes "new") (codes "b"))
