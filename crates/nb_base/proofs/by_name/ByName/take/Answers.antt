use Rattle.std.proofs.Common.{sym, ap, ◌∙◌}
use Rattle.std.specs.FinMap as map
use Rattle.nb_base.proofs.Maps.{names}
use Rattle.nb_base.proofs.Trees.{got, taken}
use Rattle.nb_base.proofs.by_name.ByName.take.Goals as goal

pub returns-clause-value : goal.returns-clause-value
returns-clause-value g c = c.remove.ensures.value ∙ sym (got names _ _) ∙ ap (λ m. map.get m c.args.name.now) c.self.view_is

pub returns-clause-rest : goal.returns-clause-rest
returns-clause-rest g c = taken names _ _ _ c.remove.ensures.updates.0 ∙ ap (λ m. map.remove m c.args.name.now) c.self.view_is
