use Rattle.std.proofs.Common.{map as map_list, fold}
use Rattle.std.specs.FinMap as map
use Rattle.std.specs.Map.Iter.{deref_pair}
use Rattle.nb_hub.specs.Indexed.{IsIndexed}
use Rattle.nb_hub.specs.Starting.{AreFree}
use Rattle.nb_queue.proofs.FoldLaws.{with_one}
use Rattle.nb_hub.proofs.start.index_of.Given as goal

abbrev pub invariant-loop-number : goal.invariant-loop-number
invariant-loop-number l = record {
  indexed : IsIndexed l.own (fold with_one map.empty (map_list deref_pair l.yielded)) l.ready;
  free : AreFree l.ready;
}
