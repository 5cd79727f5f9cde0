use Rattle.std.proofs.Common.{sym, ap, ◌∙◌}
use Rattle.std.specs.FinMap as map
use Rattle.nb_base.proofs.Maps.{places}
use Rattle.nb_base.proofs.Trees.{got, taken}
use Rattle.nb_base.proofs.by_saga.BySaga.take.Goals as goal

pub returns-clause-value : goal.returns-clause-value
returns-clause-value g c = c.remove.ensures.value ∙ sym (got places _ _) ∙ ap (λ m. map.get m c.args.place.now) c.self.view_is

pub returns-clause-rest : goal.returns-clause-rest
returns-clause-rest g c = taken places _ _ _ c.remove.ensures.updates.0 ∙ ap (λ m. map.remove m c.args.place.now) c.self.view_is
