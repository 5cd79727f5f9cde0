use Rattle.std.proofs.Common.{◌≡◌, ◌++◌, drop, map}
use Rattle.nb_script.specs.Tree.{part}
use Rattle.nb_check.specs.Declarations.{timeouts}
use Rattle.nb_check.proofs.types.timeouts.Given as goal

abbrev pub invariant-loop-p : goal.invariant-loop-p
invariant-loop-p l = timeouts (map part l.parts) ≡ l.names ++ timeouts (map part (drop l.p-index l.parts))
