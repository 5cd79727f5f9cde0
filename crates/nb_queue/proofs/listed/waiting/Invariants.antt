use Rattle.std.proofs.Common.{◌≡◌, map}
use Rattle.std.specs.List.{filter_map}
use Rattle.std.specs.Map.Iter.{deref_pair}
use Rattle.nb_queue.specs.Listed.{waiting_in}
use Rattle.nb_queue.proofs.listed.waiting.Given as goal

abbrev pub invariant-loop-number : goal.invariant-loop-number
invariant-loop-number l = l.list ≡ filter_map waiting_in (map deref_pair l.yielded)
