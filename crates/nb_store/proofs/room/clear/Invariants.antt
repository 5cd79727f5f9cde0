use Rattle.nb_store.proofs.BatchLaws.{IsClearing}
use Rattle.nb_store.proofs.room.clear.Given as goal

abbrev pub invariant-loop-i : goal.invariant-loop-i
invariant-loop-i l = IsClearing l.writes l.version l.i l.fn.tables l.tables
