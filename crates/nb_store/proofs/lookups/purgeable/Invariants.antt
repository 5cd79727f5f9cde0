use Rattle.std.proofs.Common.{◌≡◌, map}
use Rattle.std.specs.List.{filter_map}
use Rattle.std.specs.Map.Iter.{deref_pair}
use Rattle.nb_store.specs.Lookups.{going}
use Rattle.nb_store.proofs.lookups.purgeable.Given as goal

abbrev pub invariant-loop-id : goal.invariant-loop-id
invariant-loop-id l = l.names ≡ filter_map (going l.retention l.m) (map deref_pair l.yielded)
