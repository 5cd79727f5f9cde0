use Rattle.std.proofs.Common.{ap, ◌∙◌}
use Rattle.nb_core.specs.Past.{Fixed}
use Rattle.nb_pump.proofs.Going.{same_fixed}
use Rattle.nb_schedule.proofs.ended.run_at.Goals as goal

pub drain_alone-requires-clause-meaning : goal.drain_alone-requires-clause-meaning
drain_alone-requires-clause-meaning g c = ap (λ (f : Fixed). f.meaning) (same_fixed _ _ _ c.in-Ok-load_all.ensures.loads ∙ c.in-Ok.ensures.fixed) ∙ c.requires.meaning
