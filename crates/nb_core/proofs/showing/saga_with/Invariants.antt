use Rattle.std.proofs.Common.{◌≡◌}
use Rattle.std.specs.FinMap as map
use Rattle.nb_base.specs.Shown.{with_id}
use Rattle.nb_core.proofs.showing.saga_with.Given as goal

abbrev pub invariant-loop-place : goal.invariant-loop-place
invariant-loop-place l = with_id l.saga l.id (map.entries l.tables.sagas) ≡ with_id l.saga l.id l.place-iterator
