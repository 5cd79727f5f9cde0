use Rattle.std.proofs.Common.{◌≡◌, ◌++◌, drop}
use Rattle.nb_script.specs.Tree.{script}
use Rattle.nb_check.specs.Sends as spec
use Rattle.nb_check.proofs.sends.sends.Given as goal

abbrev pub invariant-loop-i : goal.invariant-loop-i
invariant-loop-i l = spec.sends (script l.items) ≡ l.names ++ spec.sends (script (drop l.i-index l.items))
