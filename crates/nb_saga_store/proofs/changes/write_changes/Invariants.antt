use Rattle.std.proofs.Common.{take}
use Rattle.nb_saga_store.specs.Writes.{written_of, change_of}
use Rattle.nb_saga_store.specs.Written.{IsSpelled}
use Rattle.nb_saga_store.proofs.ChangeLaws.{Made}
use Rattle.nb_saga_store.proofs.changes.write_changes.Given as goal

abbrev pub invariant-loop-i : goal.invariant-loop-i
invariant-loop-i l = Made (λ w. change_of (written_of l.endpoint l.n w)) (λ w. IsSpelled (written_of l.endpoint l.n w)) (take l.i l.plan.writes) l.changes
