use Rattle.std.proofs.Common.{◌≡◌, drop, None}
use Rattle.nb_check.specs.Breaches.{first_from}
use Rattle.nb_check.proofs.breach.first_of.Given as goal

abbrev pub invariant-loop-f : goal.invariant-loop-f
invariant-loop-f l = first_from None l.breaches ≡ first_from l.best (drop l.f-index l.breaches)
