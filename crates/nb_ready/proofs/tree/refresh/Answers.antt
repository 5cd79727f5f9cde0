use Rattle.std.proofs.Common.{sym, subst}
use Rattle.nb_ready.specs.First.{IsFirst}
use Rattle.nb_ready.specs.Nodes.{joined, IsForked}
use Rattle.nb_ready.proofs.FirstLaws.{first_both}
use Rattle.nb_ready.proofs.tree.refresh.Goals as goal

pub returns-in-Fork-clause-tree : goal.returns-in-Fork-clause-tree
returns-in-Fork-clause-tree c =
    let apart = subst IsForked c.in-Fork.is c.requires in (
      apart,
      subst (IsFirst (joined c.in-Fork.low.value.0 c.in-Fork.high.value.0)) (sym c.before-in-Fork.ensures) (first_both _ _ c.in-Fork.field-1 c.first.result c.first-in-Fork.result apart
          (subst (λ v. IsFirst v.0 c.first.result) c.deref.ensures c.first.ensures) (subst (λ v. IsFirst v.0 c.first-in-Fork.result) c.deref-in-Fork.ensures c.first-in-Fork.ensures)),
    )
