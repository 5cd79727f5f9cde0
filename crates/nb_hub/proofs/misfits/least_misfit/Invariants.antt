use Rattle.std.proofs.Common.{map as map_list}
use Rattle.std.specs.Map.Iter.{deref_pair}
use Rattle.nb_hub.specs.Starting.{IsLeastMisfit}
use Rattle.nb_hub.proofs.misfits.least_misfit.Given as goal

abbrev pub invariant-loop-place : goal.invariant-loop-place
invariant-loop-place g l = IsLeastMisfit (g.M.Handling.meaning l.handlers) (map_list deref_pair l.yielded) l.least
