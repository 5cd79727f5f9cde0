use Rattle.std.proofs.Common.{◌≡◌, ◌++◌, drop}
use Rattle.nb_check.specs.Declarations.{declared_all}
use Rattle.nb_check.proofs.types.declared_all.Given as goal

abbrev pub invariant-loop-f : goal.invariant-loop-f
invariant-loop-f l = declared_all (l.fields) ≡ l.all ++ declared_all ((drop l.f-index l.fields))
