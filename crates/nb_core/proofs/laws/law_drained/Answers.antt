use Rattle.std.specs.FinMap as map
use Rattle.nb_core.proofs.Copies.{error_apart}
use Rattle.nb_core.proofs.Finishing.{are_sent}
use Rattle.nb_core.proofs.Held.{phase_empty}
use Rattle.nb_core.proofs.Placing.{First_marks, placing_at_first}
use Rattle.nb_core.proofs.Serials.{kept_at_opening}
use Rattle.nb_core.proofs.Waiting.{waiting_at_first, waiting_at_end, forget}
use Rattle.nb_core.proofs.laws.law_drained.Goals as goal
use Rattle.nb_core.specs.History.{opened}
use Rattle.nb_core.specs.Pending.{since_first}

pub returns : goal.returns
returns _ c h s until legal drained =
    let o = opened h.opening in
    let first = kept_at_opening c h.opening legal.sound in
    let marks = forget c (First_marks o) o (placing_at_first c o phase_empty (λ n. map.get-empty _ n)) in
    are_sent legal.run until (waiting_at_end (since_first o) legal.run (error_apart c.settings) first.below first.holding marks (waiting_at_first c o phase_empty)) drained
