use Rattle.std.proofs.Common.{◌≡◌, ◌+◌, length}
use Rattle.std.specs.FinMap as map
use Rattle.nb_report.proofs.summing.number_of_sagas.Given as goal

abbrev pub invariant-loop : goal.invariant-loop
invariant-loop l = l.number + length l.iterator' ≡ length (map.entries l.sagas)
