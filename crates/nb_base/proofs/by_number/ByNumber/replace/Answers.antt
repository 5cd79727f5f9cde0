use Rattle.std.proofs.Common.{IsSome, true≢false, sym, ap, ◌∙◌, subst}
use Rattle.std.specs.FinMap as map
use Rattle.nb_base.proofs.Maps.{numbers}
use Rattle.nb_base.proofs.Trees.{got, inserted}
use Rattle.nb_base.proofs.by_number.ByNumber.replace.Goals as goal

pub unreachable-requires : goal.unreachable-requires
unreachable-requires g c =
    true≢false (sym (subst IsSome (ap (λ m. map.get m c.args.number) (sym c.self.view_is) ∙ got numbers _ _ ∙ c.in_default.ensures.absent) c.requires))

pub unreachable-requires-in_default-found : goal.unreachable-requires-in_default-found
unreachable-requires-in_default-found g c =
    true≢false (sym (subst IsSome (ap (λ m. map.get m c.args.number) (sym c.self.view_is) ∙ got numbers _ _ ∙ sym c.in-Ok.ensures.old ∙ c.in_default-found.is) c.requires))

pub returns-clause-value : goal.returns-clause-value
returns-clause-value g c = ap (λ m. map.get m c.args.number) (sym c.self.view_is) ∙ got numbers _ _ ∙ sym c.in-Ok.ensures.old ∙ c.in-Some.is

pub returns-clause-rest : goal.returns-clause-rest
returns-clause-rest g c = inserted numbers _ _ _ _ c.in-Ok.ensures.updates.0 ∙ ap (λ m. map.insert m c.args.number c.args.value) c.self.view_is
