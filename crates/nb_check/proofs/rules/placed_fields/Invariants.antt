use Rattle.std.proofs.Common.{◌≡◌, ◌++◌, drop}
use Rattle.nb_check.specs.Rules as spec
use Rattle.nb_check.proofs.rules.placed_fields.Given as goal

abbrev pub invariant-loop-f : goal.invariant-loop-f
invariant-loop-f l = spec.placed_fields l.fields ≡ l.placed ++ spec.placed_fields (drop l.f-index l.fields)
