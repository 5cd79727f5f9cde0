use Rattle.std.proofs.Common.{◌≡◌, map}
use Rattle.std.specs.List.{filter_map}
use Rattle.std.specs.Map.Iter.{deref_pair}
use Rattle.nb_hub.specs.Returnable.{returning}
use Rattle.nb_hub.proofs.closing.returning_of.Given as goal

abbrev pub invariant-loop-number : goal.invariant-loop-number
invariant-loop-number l = l.numbers ≡ filter_map (returning l.error) (map deref_pair l.yielded)
