use Rattle.std.proofs.Common.{ap, sym, ◌∙◌}
use Rattle.std.specs.FinMap as map
use Rattle.nb_base.proofs.Joins.{on_err}
use Rattle.nb_base.proofs.Maps.{numbers}
use Rattle.nb_base.proofs.Trees.{got, inserted}
use Rattle.nb_base.proofs.by_number.ByNumber.insert.Goals as goal

pub returns-clause-ok : goal.returns-clause-ok
returns-clause-ok g c = inserted numbers _ _ _ _ c.in_ok-insert.ensures.updates.0 ∙ ap (λ m. map.insert m c.args.number c.args.value) c.self.view_is

pub returns-in_err-insert-clause-only_new : goal.returns-in_err-insert-clause-only_new
returns-in_err-insert-clause-only_new g c = on_err _ (ap (λ m. map.get m c.args.number) (sym c.self.view_is) ∙ got numbers _ _ ∙ c.in_err-insert.ensures.absent)
