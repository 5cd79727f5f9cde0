use Rattle.std.proofs.Common.{ap, inr, ◌∙◌}
use Rattle.nb_core.specs.Past.{Fixed}
use Rattle.nb_pump.proofs.Going.{same_fixed}
use Rattle.nb_endpoint.proofs.work.run.Goals as goal

pub drain_alone-requires-clause-meaning : goal.drain_alone-requires-clause-meaning
drain_alone-requires-clause-meaning g c = ap (λ (f : Fixed). f.meaning) (same_fixed _ _ _ c.in-Ok.ensures.loads) ∙ c.requires.meaning

pub returns-clause-run : goal.returns-clause-run
returns-clause-run g c = inr (g.D.Desk.view c.load_all.new.desk, c.in-Ok.ensures.loads, c.drain_alone.ensures.drain)
