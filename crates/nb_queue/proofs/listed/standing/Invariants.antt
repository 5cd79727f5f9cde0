use Rattle.std.proofs.Common.{◌≡◌, map}
use Rattle.std.specs.List.{filter_map}
use Rattle.std.specs.Map.Iter.{deref_pair}
use Rattle.nb_queue.specs.Listed.{standing_in}
use Rattle.nb_queue.proofs.listed.standing.Given as goal

abbrev pub invariant-loop-number : goal.invariant-loop-number
invariant-loop-number l = l.list ≡ filter_map (standing_in l.queue) (map deref_pair l.yielded)
