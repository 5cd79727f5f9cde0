use Rattle.std.proofs.Common.{◌≡◌, map}
use Rattle.nb_base.specs.Shown.{Stored, seen}
use Rattle.nb_base.specs.declared.saga_row.Read.{Read}
use Rattle.nb_core.specs.Conflicts.{Best, IsBelow}
use Rattle.nb_core.proofs.staleness.least_changed.Given as goal

abbrev pub invariant-loop-i : goal.invariant-loop-i
invariant-loop-i l = IsBelow l.i l.least × ((t : Stored) → l.shown ≡ seen t (map (λ (r : Read). r.key) l.reads) → Best t l.reads l.i l.least)
