use Rattle.std.proofs.Common.{◌≡◌, take}
use Rattle.nb_store.specs.Batches.{links_of}
use Rattle.nb_store.proofs.links.links_of.Given as goal

abbrev pub invariant-loop-i : goal.invariant-loop-i
invariant-loop-i l = l.links ≡ links_of (take l.i l.writes)
