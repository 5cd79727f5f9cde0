use Rattle.std.proofs.Common.{◌≡◌, ◌++◌, drop}
use Rattle.nb_script.specs.Tree.{script}
use Rattle.nb_check.specs.Sites.{sites_from}
use Rattle.nb_check.proofs.sites.sites.Given as goal

abbrev pub invariant-loop-i : goal.invariant-loop-i
invariant-loop-i l = sites_from 0 (script l.items) ≡ l.sites ++ sites_from l.item (script (drop l.i-index l.items))
