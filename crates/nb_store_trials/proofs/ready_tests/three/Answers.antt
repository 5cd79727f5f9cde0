use Rattle.std.proofs.Common.{arith}
use Rattle.nb_ready.proofs.ChangeLaws.{has_beside, nothing}
use Rattle.nb_store_trials.proofs.ready_tests.three.Goals as goal

pub add-requires : goal.add-requires
add-requires c = nothing _ 5 c.new-ready.ensures

pub add-requires-2 : goal.add-requires-2
add-requires-2 c = has_beside _ _ 5 _ 3 _ c.in_ok-add.ensures.ok (omega arith) (nothing _ 3 c.new-ready.ensures)

pub add-requires-3 : goal.add-requires-3
add-requires-3 c = has_beside _ _ 3 _ 4 _ c.in_ok-add-2.ensures.ok (omega arith) (has_beside _ _ 5 _ 4 _ c.in_ok-add.ensures.ok (omega arith) (nothing _ 4 c.new-ready.ensures))
