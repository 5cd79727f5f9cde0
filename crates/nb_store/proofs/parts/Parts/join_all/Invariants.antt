use Rattle.std.proofs.Common.{take}
use Rattle.nb_store.proofs.OpenLaws.{Read}
use Rattle.nb_store.proofs.parts.Parts.join_all.Given as goal

abbrev pub invariant-loop-i : goal.invariant-loop-i
invariant-loop-i l = Read l.fn.self l.self (take l.i l.cells)
