use Rattle.std.proofs.Common.{◌∙◌, sym, ap, subst, arith}
use Rattle.nb_ready.specs.Seats.{LiesWithin}
use Rattle.nb_ready.specs.Nodes.{AreApart, joined}
use Rattle.nb_ready.proofs.SeatLaws.{apart_ones, joined_ones, lie_within}
use Rattle.nb_ready.proofs.tree.rising.Goals as goal

pub fork-requires : goal.fork-requires
fork-requires c =
    let ones = apart_ones c.args.n c.args.m c.max-pivot.result c.args.s c.args.t (omega arith) (omega arith) in
    subst (λ m. AreApart m c.max-pivot.result c.one-2.result.0) (sym c.one.ensures) (subst (AreApart _ c.max-pivot.result) (sym c.one-2.ensures) ones)

pub within-requires : goal.within-requires
within-requires c = subst (λ m. LiesWithin m c.args.n c.args.m) (sym c.loop-above.invariant) (lie_within c.args.n c.args.m c.args.s c.args.t c.requires.rising)

pub loop-above-init : goal.loop-above-init
loop-above-init c =
    c.in_ok-tree.ensures ∙ ap (λ m. joined m c.one-2.result.0) c.one.ensures ∙ ap (joined _) c.one-2.ensures ∙ joined_ones c.args.n c.args.m c.max-pivot.result c.args.s c.args.t (omega arith) (omega arith)

pub loop-above-preserved : goal.loop-above-preserved
loop-above-preserved c = c.in_ok-tree-2.ensures ∙ c.loop-above.invariant
