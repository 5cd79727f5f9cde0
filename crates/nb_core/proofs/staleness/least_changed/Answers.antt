use Rattle.std.proofs.Common.{◌≡◌, ◌+◌, ℕ, Option, map, length, sym, subst, arith}
use Rattle.nb_base.specs.Shown.{Stored, seen}
use Rattle.nb_base.specs.declared.saga_row.Read.{Read}
use Rattle.nb_core.proofs.Least.{best_fresh, below_more}
use Rattle.nb_core.proofs.staleness.least_changed.Goals as goal
use Rattle.nb_core.proofs.staleness.least_changed.Goals.{then-has_changed, else-has_changed}
use Rattle.nb_core.specs.Conflicts.{Best, IsAt, IsBelow}

pub loop-i-preserved : goal.loop-i-preserved
loop-i-preserved c =
    let reads = c.args.reads.now in
    let i = c.loop-i.i in
    let P : Option ℕ → Type 0 = λ o. IsBelow (i + 1) o × ((t : Stored) → c.args.shown.now ≡ seen t (map (λ (r : Read). r.key) reads) → Best t reads (i + 1) o) in
    elim c.if-has_changed.branch [
      | then-has_changed w ↦ subst P (sym w.least-is) (
        w.lesser-least.ensures.below,
        λ t is. w.lesser-least.ensures.best t (subst (IsAt t reads i) w.if-has_changed.true (c.has_changed.ensures t is)) (c.loop-i.invariant.1 t is),
      )
      | else-has_changed w ↦ subst P (sym w.least-is) (
        below_more i c.loop-i.least c.loop-i.invariant.0,
        λ t is. best_fresh t reads i c.loop-i.least (subst (IsAt t reads i) w.if-has_changed.false (c.has_changed.ensures t is)) (c.loop-i.invariant.1 t is),
      )
    ]

pub returns-clause-best : goal.returns-clause-best
returns-clause-best c t is =
    let reads = c.args.reads.now in
    let done = c.loop-i-test.false in
    let most = c.loop-i.auto.i-end in
    let end = c.len-i-end.ensures.value in
    let at_end : c.loop-i.i ≡ length reads = omega arith in
    subst (λ k. Best t reads k c.loop-i.least) at_end (c.loop-i.invariant.1 t is)
