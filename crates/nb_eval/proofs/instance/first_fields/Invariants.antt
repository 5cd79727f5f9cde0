use Rattle.std.proofs.Common.{◌≡◌, ◌++◌, drop}
use Rattle.nb_check.specs.Declarations.{state_fields}
use Rattle.nb_eval.specs.Blocks.{first_fields}
use Rattle.nb_eval.proofs.instance.first_fields.Given as goal

abbrev pub invariant-loop-f : goal.invariant-loop-f
invariant-loop-f l = first_fields (state_fields l.fields) ≡ l.firsts ++ first_fields (state_fields (drop l.f-index l.fields))
