use Rattle.std.proofs.Common.{◌≡◌, take}
use Rattle.nb_base.proofs.headers.HeadersCopied.copy.Given as goal

abbrev pub invariant-loop-i : goal.invariant-loop-i
invariant-loop-i l = l.headers ≡ take l.i l.self
