use Rattle.std.proofs.Common.{◌≡◌, ◌++◌, drop}
use Rattle.nb_script.specs.Tree.{script}
use Rattle.nb_check.specs.Declarations.{sagas}
use Rattle.nb_check.proofs.types.sagas.Given as goal

abbrev pub invariant-loop-i : goal.invariant-loop-i
invariant-loop-i l = sagas (script l.items) ≡ l.all ++ sagas (script (drop l.i-index l.items))
