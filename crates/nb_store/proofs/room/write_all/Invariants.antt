use Rattle.std.proofs.Common.{◌≡◌, length}
use Rattle.std.specs.Vec.Iter.{into_iter_items, into_iter_len}
use Rattle.nb_store.proofs.BatchLaws.{IsWriting}
use Rattle.nb_store.proofs.room.write_all.Given as goal

abbrev pub invariant-loop-write : goal.invariant-loop-write
invariant-loop-write l = IsWriting l.fn.writes (into_iter_items l.write-iterator) l.fn.tables l.tables × (into_iter_len l.write-iterator ≡ length (into_iter_items l.write-iterator))
