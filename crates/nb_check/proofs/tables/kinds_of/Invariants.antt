use Rattle.std.proofs.Common.{◌≡◌, ℕ, List, drop}
use Rattle.std.specs.FinMap as map
use Rattle.nb_check.specs.Kinds.{kind_in}
use Rattle.nb_check.proofs.TableLaws.{or_else}
use Rattle.nb_check.proofs.tables.kinds_of.Given as goal

abbrev pub invariant-loop-d : goal.invariant-loop-d
invariant-loop-d l = (name : List ℕ) → kind_in name l.declared ≡ or_else (map.get l.kinds name) (kind_in name (drop l.d-index l.declared))
