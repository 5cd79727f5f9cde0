use Rattle.std.proofs.Common.{map as map_list, fold}
use Rattle.std.specs.FinMap as map
use Rattle.std.specs.Map.Iter.{deref_pair}
use Rattle.nb_queue.specs.Dues.{HasDues}
use Rattle.nb_queue.proofs.FoldLaws.{with_one}
use Rattle.nb_queue.proofs.dues.dues_of.Given as goal

abbrev pub invariant-loop-number : goal.invariant-loop-number
invariant-loop-number l = HasDues (fold with_one map.empty (map_list deref_pair l.yielded)) l.dues
