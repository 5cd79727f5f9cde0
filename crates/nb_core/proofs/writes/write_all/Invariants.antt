use Rattle.std.proofs.Common.{◌≡◌, length}
use Rattle.nb_base.specs.Shown.{stored}
use Rattle.nb_core.specs.Serve.{written_all}
use Rattle.nb_core.specs.Tried.{with_stored}
use Rattle.nb_core.proofs.writes.write_all.Given as goal

abbrev pub invariant-loop-left : goal.invariant-loop-left
invariant-loop-left l =
    with_stored l.tables (written_all l.endpoint l.n (stored l.tables) l.left) ≡ with_stored l.initial.tables (written_all l.endpoint l.n (stored l.initial.tables) l.writes)

abbrev pub decreases-loop-left : goal.decreases-loop-left
decreases-loop-left l = length l.left
