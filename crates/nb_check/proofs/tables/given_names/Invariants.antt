use Rattle.std.proofs.Common.{◌≡◌, ℕ, List, drop, map as map_list, ◌||◌, is_some}
use Rattle.std.specs.FinMap as map
use Rattle.nb_script.specs.Tree.{arg}
use Rattle.nb_check.specs.Statements.{is_given}
use Rattle.nb_check.proofs.tables.given_names.Given as goal

abbrev pub invariant-loop-a : goal.invariant-loop-a
invariant-loop-a l = (name : List ℕ) → is_given name (map_list arg l.args) ≡ (is_some (map.get l.given name) || is_given name (map_list arg (drop l.a-index l.args)))
