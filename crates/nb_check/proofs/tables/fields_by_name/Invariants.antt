use Rattle.std.proofs.Common.{◌≡◌, ℕ, List, drop}
use Rattle.std.specs.FinMap as map
use Rattle.nb_check.specs.Statements.{fields_of}
use Rattle.nb_check.proofs.TableLaws.{or_else}
use Rattle.nb_check.proofs.tables.fields_by_name.Given as goal

abbrev pub invariant-loop-t : goal.invariant-loop-t
invariant-loop-t l = (name : List ℕ) → fields_of name l.types ≡ or_else (map.get l.table name) (fields_of name (drop l.t-index l.types))
