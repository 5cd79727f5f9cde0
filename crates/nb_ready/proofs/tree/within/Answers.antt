use Rattle.std.proofs.Common.{◌∙◌, sym, ap, subst, arith}
use Rattle.nb_ready.specs.Nodes.{joined, AreApart}
use Rattle.nb_ready.proofs.SeatLaws.{apart_low, apart_high, joined-empty_low, joined-empty_high, if_same}
use Rattle.nb_ready.proofs.tree.within.Goals as goal

pub fork-requires : goal.fork-requires
fork-requires c = subst (AreApart c.args.tree.0 c.args.pivot) (sym c.new.ensures) (apart_low c.args.tree.0 c.args.pivot (λ q s has. let le = (c.requires q s has).1 in omega arith))

pub fork-requires-then-pivot-from : goal.fork-requires-then-pivot-from
fork-requires-then-pivot-from c =
    subst (λ m. AreApart m c.args.pivot c.args.tree.0) (sym c.new-then-pivot-from.ensures) (apart_high c.args.pivot c.args.tree.0 (λ q s has. let le = (c.requires q s has).0 in omega arith))

pub returns-then-to-pivot : goal.returns-then-to-pivot
returns-then-to-pivot c = if_same c.fork.result _ _ c.fork.ensures (ap (joined c.args.tree.0) c.new.ensures ∙ joined-empty_high c.args.tree.0)

pub returns-then-pivot-from : goal.returns-then-pivot-from
returns-then-pivot-from c = if_same c.fork-then-pivot-from.result _ _ c.fork-then-pivot-from.ensures (ap (λ m. joined m c.args.tree.0) c.new-then-pivot-from.ensures ∙ joined-empty_low c.args.tree.0)
