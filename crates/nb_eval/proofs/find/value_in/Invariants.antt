use Rattle.std.proofs.Common.{◌≡◌, drop}
use Rattle.nb_check.specs.Keys.{value_in}
use Rattle.nb_eval.proofs.find.value_in.Given as goal

abbrev pub invariant-loop-f : goal.invariant-loop-f
invariant-loop-f l = value_in l.name (drop l.f-index l.fields) ≡ value_in l.name l.fields
