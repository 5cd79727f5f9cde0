use Rattle.std.proofs.Common.{◌≡◌, map as map_list, fold}
use Rattle.std.specs.FinMap as map
use Rattle.std.specs.Map.Iter.{deref_pair}
use Rattle.nb_base.proofs.Copies.{with_one}
use Rattle.nb_base.proofs.by_name.ByNameCopied.copy.Given as goal

abbrev pub invariant-loop-name : goal.invariant-loop-name
invariant-loop-name g l = l.copy ≡ fold with_one map.empty (map_list deref_pair l.yielded)
