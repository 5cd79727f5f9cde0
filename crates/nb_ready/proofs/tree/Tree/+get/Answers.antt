use Rattle.std.proofs.Common.{◌∙◌, ap}
use Rattle.std.specs.FinMap as finite
use Rattle.nb_ready.proofs.NodeLaws.{get_empty, get_same, get_other, at_fork, get_at_low, get_at_high}
use Rattle.nb_ready.proofs.tree.Tree.+get.Goals as goal

pub returns-in-Empty : goal.returns-in-Empty
returns-in-Empty t c = get_empty _ _ c.args.number c.self.view_is c.in-Empty.is

pub returns-then-n-number : goal.returns-then-n-number
returns-then-n-number t c = get_same _ _ _ _ c.args.number c.self.view_is c.in-One.is c.if-n-number.true

pub returns-else-n-number : goal.returns-else-n-number
returns-else-n-number t c = get_other _ _ _ _ c.args.number c.self.view_is c.in-One.is c.if-n-number.false

pub returns-then-number-pivot : goal.returns-then-number-pivot
returns-then-number-pivot t c =
    let f = at_fork c.self.view_is c.self.invariant c.in-Fork.is in
    c.get.ensures ∙ ap (λ (v : _). finite.get v.0 c.args.number) c.deref.ensures ∙ get_at_low c.args.number f c.if-number-pivot.true

pub returns-else-number-pivot : goal.returns-else-number-pivot
returns-else-number-pivot t c =
    let f = at_fork c.self.view_is c.self.invariant c.in-Fork.is in
    c.get-else-number-pivot.ensures ∙ ap (λ (v : _). finite.get v.0 c.args.number) c.deref-else-number-pivot.ensures ∙ get_at_high c.args.number f c.if-number-pivot.false
