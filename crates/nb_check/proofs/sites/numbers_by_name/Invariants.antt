use Rattle.std.proofs.Common.{◌≡◌, ℕ, List, ◌++◌, drop}
use Rattle.std.specs.FinMap as map
use Rattle.nb_check.specs.Sites.{numbers_in, numbers_of}
use Rattle.nb_check.proofs.sites.numbers_by_name.Given as goal

abbrev pub invariant-loop-s : goal.invariant-loop-s
invariant-loop-s l = (name : List ℕ) → numbers_in name 0 l.sites ≡ numbers_of (map.get l.named name) ++ numbers_in name l.number (drop l.s-index l.sites)
