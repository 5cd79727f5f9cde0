use Rattle.std.proofs.Common.{◌≡◌, ℕ, List, drop, ◌||◌, is_some}
use Rattle.std.specs.FinMap as map
use Rattle.nb_check.specs.Statements.{has_name}
use Rattle.nb_check.proofs.tables.names_table.Given as goal

abbrev pub invariant-loop-n : goal.invariant-loop-n
invariant-loop-n l = (name : List ℕ) → has_name name l.names ≡ (is_some (map.get l.table name) || has_name name (drop l.n-index l.names))
