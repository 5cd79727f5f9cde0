use Rattle.std.proofs.Common.{◌≡◌, ◌++◌, drop, map}
use Rattle.nb_script.specs.Tree.{part}
use Rattle.nb_check.specs.Sites.{part_sites}
use Rattle.nb_check.proofs.sites.add_parts.Given as goal

abbrev pub invariant-loop-p : goal.invariant-loop-p
invariant-loop-p l = l.fn.sites ++ part_sites l.item 0 (map part l.parts) ≡ l.sites ++ part_sites l.item l.part (map part (drop l.p-index l.parts))
