use Rattle.std.proofs.Common.{◌≡◌, drop}
use Rattle.nb_base.specs.declared.value.Key.TheVariants.{ByCorr}
use Rattle.nb_eval.specs.Worlds.{seen_in}
use Rattle.nb_eval.proofs.blocks.by_corr.Given as goal

abbrev pub invariant-loop-r : goal.invariant-loop-r
invariant-loop-r l = seen_in (drop l.r-index l.reads) (ByCorr l.saga l.corr) ≡ seen_in l.reads (ByCorr l.saga l.corr)
