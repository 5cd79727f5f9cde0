-- What the count of faults says of a call on a store of cells.
use Rattle.std.specs.Prelude.{◌≡◌, ℕ, ◌≤◌, Result, Err}
use Rattle.nb_base.specs.Causes.{Rose}
use Rattle.nb_cells.specs.declared.fault.CellFault.{CellFault}
use Rattle.nb_cells.specs.declared.fault.CellFault.TheVariants.{Failed}

-- the count never falls, and a call that answers `Failed` has raised it
pub record IsCounted {T : Type 0} (before now : ℕ) (result : Result T CellFault) : Type 0 where
  pub later : before ≤ now
  pub failed : result ≡ Err Failed → Rose before now
