use Rattle.std.proofs.Common.{◌≡◌, ◌++◌, drop}
use Rattle.nb_script.specs.Tree.{script}
use Rattle.nb_check.specs.Rules as spec
use Rattle.nb_check.proofs.rules.placed_messages.Given as goal

abbrev pub invariant-loop-i : goal.invariant-loop-i
invariant-loop-i l = spec.placed_messages (script l.items) ≡ l.placed ++ spec.placed_messages (script (drop l.i-index l.items))
