use Rattle.std.proofs.Common.{ap, ◌∙◌}
use Rattle.std.specs.FinMap as map
use Rattle.nb_base.proofs.Maps.{places}
use Rattle.nb_base.proofs.Trees.{taken}
use Rattle.nb_base.proofs.by_saga.BySaga.remove.Goals as goal

pub returns : goal.returns
returns g c = taken places _ _ _ c.remove.ensures.updates.0 ∙ ap (λ m. map.remove m c.args.place.now) c.self.view_is
