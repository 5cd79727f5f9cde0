use Rattle.std.proofs.Common.{◌≡◌, take}
use Rattle.nb_store.specs.Batches.{touched_ids}
use Rattle.nb_store.proofs.links.touched_ids.Given as goal

abbrev pub invariant-loop-i : goal.invariant-loop-i
invariant-loop-i l = l.names ≡ touched_ids l.sagas (take l.i l.writes)
