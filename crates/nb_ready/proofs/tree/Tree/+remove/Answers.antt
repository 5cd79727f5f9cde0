use Rattle.std.proofs.Common.{◌∙◌, ap}
use Rattle.std.specs.FinMap as finite
use Rattle.nb_ready.proofs.NodeLaws.{at_fork, remove_at_low, remove_at_high, remove_empty, remove_same, remove_other, forked}
use Rattle.nb_ready.proofs.tree.Tree.+remove.Goals as goal
use Rattle.nb_ready.proofs.tree.Tree.+remove.Goals.{then-number-pivot, else-number-pivot}

pub returns-in-Empty : goal.returns-in-Empty
returns-in-Empty t c = remove_empty _ _ c.args.number c.self.view_is c.in-Empty.is

pub returns-then-n-number : goal.returns-then-n-number
returns-then-n-number t c = remove_other _ _ _ _ c.args.number c.self.view_is c.in-One.is c.if-n-number.true

pub returns-in-One : goal.returns-in-One
returns-in-One t c = remove_same _ _ _ _ c.args.number c.self.view_is c.in-One.is c.if-n-number.false

pub collapse-requires : goal.collapse-requires
collapse-requires t c =
    let f = at_fork c.self.view_is c.self.invariant c.in-Fork.is in
    elim c.if-number-pivot.branch [
      | then-number-pivot w ↦
          (forked _ _ (ap (λ x. x.node) w.self-inside-is) (remove_at_low c.args.number _ f w.if-number-pivot.true (w.remove.ensures ∙ ap (λ v. finite.remove v.0 c.args.number) w.deref_mut.ensures.value))).0
      | else-number-pivot w ↦
          (forked _ _ (ap (λ x. x.node) w.self-inside-is) (remove_at_high c.args.number _ f w.if-number-pivot.false (w.remove-else-number-pivot.ensures ∙ ap (λ v. finite.remove v.0 c.args.number) w.deref_mut-else-number-pivot.ensures.value))).0
    ]

pub returns : goal.returns
returns t c =
    let f = at_fork c.self.view_is c.self.invariant c.in-Fork.is in
    c.collapse.ensures.same
    ∙ elim c.if-number-pivot.branch [
      | then-number-pivot w ↦
          (forked _ _ (ap (λ x. x.node) w.self-inside-is) (remove_at_low c.args.number _ f w.if-number-pivot.true (w.remove.ensures ∙ ap (λ v. finite.remove v.0 c.args.number) w.deref_mut.ensures.value))).1
      | else-number-pivot w ↦
          (forked _ _ (ap (λ x. x.node) w.self-inside-is) (remove_at_high c.args.number _ f w.if-number-pivot.false (w.remove-else-number-pivot.ensures ∙ ap (λ v. finite.remove v.0 c.args.number) w.deref_mut-else-number-pivot.ensures.value))).1
    ]
