use Rattle.std.proofs.Common.{◌≡◌, ◌++◌, drop}
use Rattle.nb_check.specs.Declarations.{state_fields}
use Rattle.nb_check.proofs.types.state_fields.Given as goal

abbrev pub invariant-loop-f : goal.invariant-loop-f
invariant-loop-f l = state_fields (l.fields) ≡ l.all ++ state_fields ((drop l.f-index l.fields))
