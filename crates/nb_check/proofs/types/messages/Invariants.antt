use Rattle.std.proofs.Common.{◌≡◌, ◌++◌, drop}
use Rattle.nb_script.specs.Tree.{script}
use Rattle.nb_check.specs.Declarations.{messages}
use Rattle.nb_check.proofs.types.messages.Given as goal

abbrev pub invariant-loop-i : goal.invariant-loop-i
invariant-loop-i l = messages (script l.items) ≡ l.all ++ messages (script (drop l.i-index l.items))
