use Rattle.std.proofs.Common.{◌∙◌, ap, arith, rules}
use Rattle.std.specs.FinMap as finite
use Rattle.nb_ready.proofs.NodeLaws.{at_fork, differ, get_at_low, get_at_high, insert_at_low, insert_at_high, forked}
use Rattle.nb_ready.proofs.tree.Tree.+add.Goals as goal
use Rattle.nb_ready.proofs.tree.Tree.+add.Goals.{then-number-pivot+in_ok-add-in-Fork, else-number-pivot+in_ok-add-in-Fork-2}

pub pair-requires-clause-apart : goal.pair-requires-clause-apart
pair-requires-clause-apart t c = differ _ _ _ _ c.args.number c.self.view_is c.in-One.is c.requires.new

pub add-requires : goal.add-requires
add-requires t c =
    let f = at_fork c.self.view_is c.self.invariant c.in-Fork.is in
    (search rules, (ap (λ v. finite.get v.0 c.args.number) c.deref_mut.ensures.value ∙ get_at_low c.args.number f c.if-number-pivot.true ∙ c.requires.new, omega arith))

pub add-requires-else-number-pivot : goal.add-requires-else-number-pivot
add-requires-else-number-pivot t c =
    let f = at_fork c.self.view_is c.self.invariant c.in-Fork.is in
    (search rules, (ap (λ v. finite.get v.0 c.args.number) c.deref_mut-else-number-pivot.ensures.value ∙ get_at_high c.args.number f c.if-number-pivot.false ∙ c.requires.new, omega arith))

pub refresh-requires : goal.refresh-requires
refresh-requires t c =
    let f = at_fork c.self.view_is c.self.invariant c.in-Fork.is in
    elim c.if-number-pivot.branch [
      | then-number-pivot+in_ok-add-in-Fork w ↦
          (forked _ _ (ap (λ x. x.node) w.self-inside-is) (insert_at_low c.args.number c.args.seat _ f w.if-number-pivot.true (w.in_ok-add-in-Fork.ensures.ok ∙ ap (λ v. finite.insert v.0 c.args.number c.args.seat) w.deref_mut.ensures.value))).0
      | else-number-pivot+in_ok-add-in-Fork-2 w ↦
          (forked _ _ (ap (λ x. x.node) w.self-inside-is) (insert_at_high c.args.number c.args.seat _ f w.if-number-pivot.false (w.in_ok-add-in-Fork-2.ensures.ok ∙ ap (λ v. finite.insert v.0 c.args.number c.args.seat) w.deref_mut-else-number-pivot.ensures.value))).0
    ]

pub returns-clause-ok : goal.returns-clause-ok
returns-clause-ok t c =
    let f = at_fork c.self.view_is c.self.invariant c.in-Fork.is in
    ap (λ v. v.0) c.refresh.ensures.same
    ∙ elim c.if-number-pivot.branch [
      | then-number-pivot+in_ok-add-in-Fork w ↦
          (forked _ _ (ap (λ x. x.node) w.self-inside-is) (insert_at_low c.args.number c.args.seat _ f w.if-number-pivot.true (w.in_ok-add-in-Fork.ensures.ok ∙ ap (λ v. finite.insert v.0 c.args.number c.args.seat) w.deref_mut.ensures.value))).1
      | else-number-pivot+in_ok-add-in-Fork-2 w ↦
          (forked _ _ (ap (λ x. x.node) w.self-inside-is) (insert_at_high c.args.number c.args.seat _ f w.if-number-pivot.false (w.in_ok-add-in-Fork-2.ensures.ok ∙ ap (λ v. finite.insert v.0 c.args.number c.args.seat) w.deref_mut-else-number-pivot.ensures.value))).1
    ]
