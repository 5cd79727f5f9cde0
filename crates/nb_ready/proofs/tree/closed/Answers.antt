use Rattle.std.proofs.Common.{◌∙◌, sym, ap, subst, refl}
use Rattle.nb_ready.specs.First.{IsFirst}
use Rattle.nb_ready.specs.Nodes.{joined}
use Rattle.nb_ready.proofs.FirstLaws.{first_sides}
use Rattle.nb_ready.proofs.SeatLaws.{joined-empty_low, joined-empty_high}
use Rattle.nb_ready.proofs.tree.closed.Goals as goal

pub returns-then-not-is_fork-clause-same : goal.returns-then-not-is_fork-clause-same
returns-then-not-is_fork-clause-same c =
    ap (λ v. v.0) (c.open.ensures.same ∙ c.into_inner.ensures)
    ∙ sym (ap (λ m. joined m c.args.high.value.0) (ap (λ v. v.0) (sym c.deref.ensures) ∙ c.is_empty.ensures c.if-is_empty.true) ∙ joined-empty_low c.args.high.value.0)

pub returns-then-not-is_fork-2-clause-same : goal.returns-then-not-is_fork-2-clause-same
returns-then-not-is_fork-2-clause-same c =
    ap (λ v. v.0) (c.open-then-not-is_fork-2.ensures.same ∙ c.into_inner-then-not-is_fork-2.ensures)
    ∙ sym (ap (joined c.args.low.value.0) (ap (λ v. v.0) (sym c.deref-2.ensures) ∙ c.is_empty-2.ensures c.if-is_empty-2.true) ∙ joined-empty_high c.args.low.value.0)

pub returns-clause-tree : goal.returns-clause-tree
returns-clause-tree c =
    first_sides _ _ c.args.low.value.0 c.args.pivot c.args.high.value.0 c.first.result c.first-2.result _ refl refl c.requires
    (subst (λ v. IsFirst v.0 c.first.result) c.deref-3.ensures c.first.ensures) (subst (λ v. IsFirst v.0 c.first-2.result) c.deref-4.ensures c.first-2.ensures) c.before-first.ensures
