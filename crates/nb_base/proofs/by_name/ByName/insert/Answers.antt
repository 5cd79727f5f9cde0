use Rattle.std.proofs.Common.{ap, sym, ◌∙◌}
use Rattle.std.specs.FinMap as map
use Rattle.nb_base.proofs.Joins.{on_err}
use Rattle.nb_base.proofs.Maps.{names}
use Rattle.nb_base.proofs.Trees.{got, inserted}
use Rattle.nb_base.proofs.by_name.ByName.insert.Goals as goal

pub returns-clause-ok : goal.returns-clause-ok
returns-clause-ok g c = inserted names _ _ _ _ c.in_ok-insert.ensures.updates.0 ∙ ap (λ m. map.insert m c.args.name c.args.value) c.self.view_is

pub returns-in_err-insert-clause-only_new : goal.returns-in_err-insert-clause-only_new
returns-in_err-insert-clause-only_new g c = on_err _ (ap (λ m. map.get m c.args.name) (sym c.self.view_is) ∙ got names _ _ ∙ c.in_err-insert.ensures.absent)
