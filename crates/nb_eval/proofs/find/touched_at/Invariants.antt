use Rattle.std.proofs.Common.{◌≡◌, drop}
use Rattle.nb_eval.specs.Worlds.{touched_at}
use Rattle.nb_eval.proofs.find.touched_at.Given as goal

abbrev pub invariant-loop-t : goal.invariant-loop-t
invariant-loop-t l = touched_at l.name (drop l.t-index l.rows) ≡ touched_at l.name l.rows
