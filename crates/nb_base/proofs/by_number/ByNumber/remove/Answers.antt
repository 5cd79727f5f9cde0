use Rattle.std.proofs.Common.{ap, ◌∙◌}
use Rattle.std.specs.FinMap as map
use Rattle.nb_base.proofs.Maps.{numbers}
use Rattle.nb_base.proofs.Trees.{taken}
use Rattle.nb_base.proofs.by_number.ByNumber.remove.Goals as goal

pub returns : goal.returns
returns g c = taken numbers _ _ _ c.remove.ensures.updates.0 ∙ ap (λ m. map.remove m c.args.number) c.self.view_is
