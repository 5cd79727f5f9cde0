use Rattle.std.proofs.Common.{◌≡◌, ◌++◌, drop}
use Rattle.nb_script.specs.Tree.{script}
use Rattle.nb_check.specs.Rules as spec
use Rattle.nb_check.proofs.rules.want_items.Given as goal

abbrev pub invariant-loop-i : goal.invariant-loop-i
invariant-loop-i l = l.fn.breaches ++ spec.items_faults l.messages (script l.items) ≡ l.breaches ++ spec.items_faults l.messages (script (drop l.i-index l.items))
