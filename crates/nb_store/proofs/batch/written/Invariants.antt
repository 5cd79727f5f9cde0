use Rattle.std.proofs.Common.{◌≡◌, map, take}
use Rattle.nb_saga_store.specs.Writes.{written_of}
use Rattle.nb_store.proofs.batch.written.Given as goal

abbrev pub invariant-loop-i : goal.invariant-loop-i
invariant-loop-i l = l.items ≡ map (written_of l.endpoint l.n) (take l.i l.writes)
