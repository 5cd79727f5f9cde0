use Rattle.std.proofs.Common.{take}
use Rattle.nb_store.specs.Batches.{AreSwept}
use Rattle.nb_store.proofs.links.sweep.Given as goal

abbrev pub invariant-loop-i : goal.invariant-loop-i
invariant-loop-i l = AreSwept l.sagas (take l.i l.names) l.fn.ids l.ids
