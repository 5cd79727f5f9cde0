use Rattle.std.proofs.Common.{[], ◌∷◌, sym, subst}
use Rattle.std.specs.List.{IsDistinct}
use Rattle.nb_cells.specs.Cells.{AreDistinct}
use Rattle.nb_cells.specs.declared.change.Change.{Change}
use Rattle.nb_cells.specs.declared.change.Change.TheVariants.{Put}
use Rattle.nb_sql_trials.proofs.cell_tests.put.Goals as goal

one_distinct : (change : Change) → AreDistinct (change ∷ [])
unfolding IsDistinct
one_distinct change = (tt, tt)

pub apply-requires-clause-distinct : goal.apply-requires-clause-distinct
apply-requires-clause-distinct g c = subst AreDistinct (sym c.in_ok-changes.ensures) (one_distinct (Put c.args.space c.args.key.now c.args.bytes.now))
