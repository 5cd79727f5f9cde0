use Rattle.std.proofs.Common.{◌≡◌, ◌++◌, drop}
use Rattle.nb_eval.proofs.instance.fields_of.Given as goal

abbrev pub invariant-loop-f : goal.invariant-loop-f
invariant-loop-f l = l.rows ≡ l.fields ++ drop l.f-index l.rows
