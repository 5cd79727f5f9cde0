use Rattle.std.proofs.Common.{◌∙◌, sym, ap, subst, rules, IsSome}
use Rattle.std.specs.FinMap as finite
use Rattle.nb_ready.proofs.NodeLaws.{at_fork, get_at_low, get_at_high, insert_at_low, insert_at_high, set_empty, set_one, forked}
use Rattle.nb_ready.proofs.tree.Tree.+set.Goals as goal
use Rattle.nb_ready.proofs.tree.Tree.+set.Goals.{then-number-pivot, else-number-pivot}

pub returns-in-Empty : goal.returns-in-Empty
returns-in-Empty t c = set_empty _ _ c.args.number _ c.self.view_is c.in-Empty.is c.requires

pub returns-in-One : goal.returns-in-One
returns-in-One t c = set_one _ _ _ _ c.args.number c.args.to c.self.view_is c.in-One.is c.requires

pub set-requires : goal.set-requires
set-requires t c =
    let f = at_fork c.self.view_is c.self.invariant c.in-Fork.is in
    (search rules, subst IsSome (sym (ap (λ v. finite.get v.0 c.args.number) c.deref_mut.ensures.value ∙ get_at_low c.args.number f c.if-number-pivot.true)) c.requires)

pub set-requires-else-number-pivot : goal.set-requires-else-number-pivot
set-requires-else-number-pivot t c =
    let f = at_fork c.self.view_is c.self.invariant c.in-Fork.is in
    (search rules, subst IsSome (sym (ap (λ v. finite.get v.0 c.args.number) c.deref_mut-else-number-pivot.ensures.value ∙ get_at_high c.args.number f c.if-number-pivot.false)) c.requires)

pub refresh-requires : goal.refresh-requires
refresh-requires t c =
    let f = at_fork c.self.view_is c.self.invariant c.in-Fork.is in
    elim c.if-number-pivot.branch [
      | then-number-pivot w ↦
          (forked _ _ (ap (λ x. x.node) w.self-inside-is) (insert_at_low c.args.number c.args.to _ f w.if-number-pivot.true (w.set.ensures ∙ ap (λ v. finite.insert v.0 c.args.number c.args.to) w.deref_mut.ensures.value))).0
      | else-number-pivot w ↦
          (forked _ _ (ap (λ x. x.node) w.self-inside-is) (insert_at_high c.args.number c.args.to _ f w.if-number-pivot.false (w.set-else-number-pivot.ensures ∙ ap (λ v. finite.insert v.0 c.args.number c.args.to) w.deref_mut-else-number-pivot.ensures.value))).0
    ]

pub returns : goal.returns
returns t c =
    let f = at_fork c.self.view_is c.self.invariant c.in-Fork.is in
    ap (λ v. v.0) c.refresh.ensures.same
    ∙ elim c.if-number-pivot.branch [
      | then-number-pivot w ↦
          (forked _ _ (ap (λ x. x.node) w.self-inside-is) (insert_at_low c.args.number c.args.to _ f w.if-number-pivot.true (w.set.ensures ∙ ap (λ v. finite.insert v.0 c.args.number c.args.to) w.deref_mut.ensures.value))).1
      | else-number-pivot w ↦
          (forked _ _ (ap (λ x. x.node) w.self-inside-is) (insert_at_high c.args.number c.args.to _ f w.if-number-pivot.false (w.set-else-number-pivot.ensures ∙ ap (λ v. finite.insert v.0 c.args.number c.args.to) w.deref_mut-else-number-pivot.ensures.value))).1
    ]
