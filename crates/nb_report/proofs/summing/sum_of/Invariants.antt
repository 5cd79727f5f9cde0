use Rattle.std.proofs.Common.{◌≡◌, fold, pos, ◌+ℤ◌}
use Rattle.std.specs.FinMap as map
use Rattle.nb_report.proofs.summing.sum_of.Given as goal

abbrev pub invariant-loop-row : goal.invariant-loop-row
invariant-loop-row l = fold (λ sum r. sum +ℤ r.1.value) l.sum l.row-iterator ≡ fold (λ sum r. sum +ℤ r.1.value) (pos 0) (map.entries l.rows)
