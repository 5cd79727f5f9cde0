use Rattle.std.proofs.Common.{sym, ◌∙◌}
use Rattle.nb_schedule.proofs.Ending.{none_kept}
use Rattle.nb_schedule.proofs.seat.is_empty.Goals as goal

pub returns-in-None : goal.returns-in-None
returns-in-None c = λ yes w. none_kept c.args.seats.now (sym c.iter.ensures ∙ c.in-None.ensures.steps.0) w
