use Rattle.std.proofs.Common.{◌≡◌, drop}
use Rattle.nb_base.specs.declared.value.Key.TheVariants.{Row}
use Rattle.nb_eval.specs.Worlds.{seen_in}
use Rattle.nb_eval.proofs.find.number_read.Given as goal

abbrev pub invariant-loop-r : goal.invariant-loop-r
invariant-loop-r l = seen_in (drop l.r-index l.reads) (Row l.name) ≡ seen_in l.reads (Row l.name)
