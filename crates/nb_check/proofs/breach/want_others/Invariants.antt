use Rattle.std.proofs.Common.{◌≡◌, ◌++◌, drop}
use Rattle.nb_check.specs.Breaches.{again}
use Rattle.nb_check.proofs.breach.want_others.Given as goal

abbrev pub invariant-loop-p : goal.invariant-loop-p
invariant-loop-p l = l.fn.breaches ++ again l.rule l.name l.others ≡ l.breaches ++ again l.rule l.name (drop l.p-index l.others)
