use Rattle.std.proofs.Common.{sym, ap, ◌∙◌}
use Rattle.std.specs.FinMap as map
use Rattle.nb_base.proofs.Maps.{places}
use Rattle.nb_base.proofs.Trees.{got}
use Rattle.nb_base.proofs.by_saga.BySaga.get.Goals as goal

pub returns : goal.returns
returns g c = c.get.ensures.value ∙ sym (got places _ _) ∙ ap (λ m. map.get m c.args.place.now) c.self.view_is
