use Rattle.nb_core.proofs.Least.{judged}
use Rattle.nb_core.proofs.staleness.has_changed.Goals as goal

pub returns : goal.returns
returns c t is = judged t c.args.reads.now c.args.shown.now c.args.i c.at.result.now c.at-2.result.now c.version.result c.version-2.result is c.at.ensures c.at-2.ensures c.version.ensures c.version-2.ensures
