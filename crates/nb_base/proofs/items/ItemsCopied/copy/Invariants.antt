use Rattle.std.proofs.Common.{◌≡◌, take}
use Rattle.nb_base.proofs.items.ItemsCopied.copy.Given as goal

abbrev pub invariant-loop-i : goal.invariant-loop-i
invariant-loop-i g l = l.items ≡ take l.i l.self
