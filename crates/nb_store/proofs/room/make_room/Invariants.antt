use Rattle.nb_store.proofs.BatchLaws.{IsMakingRoom}
use Rattle.nb_store.proofs.room.make_room.Given as goal

abbrev pub invariant-loop-i : goal.invariant-loop-i
invariant-loop-i l = IsMakingRoom l.writes l.i l.fn.tables l.tables
