use Rattle.std.proofs.Common.{◌≡◌, Less, Equal, Greater, Ordering, sym, ◌∙◌}
use Rattle.nb_core.proofs.Least.{at_less, at_kept}
use Rattle.nb_core.proofs.staleness.lesser_of.Goals as goal

equal_not : (o : Ordering) → o ≡ Equal → o ≡ Less → ⊥
equal_not o a b = let z = sym a ∙ b in cc

greater_not : (o : Ordering) → o ≡ Greater → o ≡ Less → ⊥
greater_not o a b = let z = sym a ∙ b in cc

pub returns-in-Less-clause-best : goal.returns-in-Less-clause-best
returns-in-Less-clause-best c t a b = at_less t c.args.reads.now c.args.i c.args.j c.at.result.now c.at-2.result.now c.at.ensures c.at-2.ensures a b c.cmp.result c.cmp.ensures c.in-Less.is

pub returns-in-Equal-clause-best : goal.returns-in-Equal-clause-best
returns-in-Equal-clause-best c t a b = at_kept t c.args.reads.now c.args.i c.args.j c.at.result.now c.at-2.result.now c.at.ensures c.at-2.ensures a b c.cmp.result c.cmp.ensures (equal_not c.cmp.result c.in-Equal.is)

pub returns-in-Greater-clause-best : goal.returns-in-Greater-clause-best
returns-in-Greater-clause-best c t a b = at_kept t c.args.reads.now c.args.i c.args.j c.at.result.now c.at-2.result.now c.at.ensures c.at-2.ensures a b c.cmp.result c.cmp.ensures (greater_not c.cmp.result c.in-Greater.is)
