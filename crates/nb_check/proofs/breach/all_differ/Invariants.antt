use Rattle.std.proofs.Common.{◌≡◌, [], drop}
use Rattle.nb_check.specs.Breaches.{twice}
use Rattle.nb_check.specs.declared.breach.CheckKind.{CheckKind}
use Rattle.nb_check.proofs.TableLaws.{NoneOf}
use Rattle.nb_check.proofs.breach.all_differ.Given as goal

abbrev pub invariant-loop-p : goal.invariant-loop-p
invariant-loop-p l = (rule : CheckKind) → NoneOf l.before (drop l.p-index l.names) → twice rule (drop l.p-index l.names) ≡ [] → twice rule l.names ≡ []
