use Rattle.std.proofs.Common.{ap}
use Rattle.nb_ready.proofs.FirstLaws.{first_sides}
use Rattle.nb_ready.proofs.tree.fork.Goals as goal

pub invariant_of-result : goal.invariant_of-result
invariant_of-result c =
    first_sides _ _ c.args.low.0 c.args.pivot c.args.high.0 c.first.result c.first-2.result _ (ap (λ v. v.0) c.in_ok-low.ensures.ok) (ap (λ v. v.0) c.in_ok-high.ensures.ok) c.requires c.first.ensures c.first-2.ensures c.before-first.ensures
