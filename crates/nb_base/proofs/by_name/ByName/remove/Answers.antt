use Rattle.std.proofs.Common.{ap, ◌∙◌}
use Rattle.std.specs.FinMap as map
use Rattle.nb_base.proofs.Maps.{names}
use Rattle.nb_base.proofs.Trees.{taken}
use Rattle.nb_base.proofs.by_name.ByName.remove.Goals as goal

pub returns : goal.returns
returns g c = taken names _ _ _ c.remove.ensures.updates.0 ∙ ap (λ m. map.remove m c.args.name.now) c.self.view_is
