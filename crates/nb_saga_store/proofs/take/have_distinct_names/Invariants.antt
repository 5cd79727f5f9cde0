use Rattle.std.proofs.Common.{take}
use Rattle.nb_saga_store.proofs.OnceLaws.{SeenNames}
use Rattle.nb_saga_store.proofs.take.have_distinct_names.Given as goal

abbrev pub invariant-loop-i : goal.invariant-loop-i
invariant-loop-i l = SeenNames (take l.i l.fields) l.names
