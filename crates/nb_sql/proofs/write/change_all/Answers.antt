use Rattle.std.proofs.Common.{◌≡◌, ◌∙◌, ◌+◌, take, rules, arith, sym, subst, length}
use Rattle.std.proofs.Math.Seq.{take-length}
use Rattle.std.proofs.lemmas.List.Sums.{fold_more}
use Rattle.nb_cells.specs.Cells.{with_change, changed}
use Rattle.nb_sql.specs.Held.{Sees}
use Rattle.sqlite.specs.State.{HasCleanDisk}
use Rattle.sqlite.specs.Held.{state}
use Rattle.sqlite.proofs.StateLemmas.{survives_then}
use Rattle.nb_sql.proofs.ChangeLemmas.{keeps_then}
use Rattle.nb_sql.proofs.write.change_all.Goals as goal

pub changes-preserved : goal.changes-preserved
changes-preserved g c =
    let old = state g.S.Store c.args.tx.now.conn.now in
    let mid = state g.S.Store c.changes.tx.conn.now in
    let now = state g.S.Store c.change_one.new.tx.conn.now in
    let was = c.changes.invariant in
    let step = c.change_one.ensures in
    let early = λ (clean : HasCleanDisk now). let it : HasCleanDisk mid = omega (arith, step.survives.clean) in it in (
      step.same_reference ∙ was.0,
      survives_then old mid now _ _ (λ _. ⊥) (λ _ db none. none) (λ _ db none. none) was.1 step.survives,
      λ clean. keeps_then old mid now (was.2 (early clean)) (step.kept clean),
      λ m clean sees.
          let it = c.in_ok-change_one.ensures.ok _ clean (was.3 m (early clean) sees).0 in
          let same : changed (take (c.changes.change-index + 1) c.args.changes.now) m ≡ with_change (changed (take c.changes.change-index c.args.changes.now) m) c.change-item.result = search (rules, fold_more with_change m c.args.changes.now c.changes.change-index) in
          (subst (Sees now) (sym same) it.1, λ _. it.0),
    )

pub returns-clause-ok : goal.returns-clause-ok
returns-clause-ok g c m clean sees =
    let end : c.changes.change-index ≡ length c.args.changes.now = omega (arith, c.changes.auto.change-index-end, c.changes-test.false) in
    let all = (c.changes.invariant.3 m clean sees).0 in
    rw (end, take-length c.args.changes.now) at all

pub returns-clause-some : goal.returns-clause-some
returns-clause-some g c m clean sees some =
    let end : c.changes.change-index ≡ length c.args.changes.now = omega (arith, c.changes.auto.change-index-end, c.changes-test.false) in
    (c.changes.invariant.3 m clean sees).1 (omega arith)
