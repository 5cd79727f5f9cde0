use Rattle.std.proofs.Common.{◌≡◌, ◌+◌}
use Rattle.std.specs.FinMap as map
use Rattle.nb_report.specs.Summary.{number_in}
use Rattle.nb_report.proofs.summing.number_in.Given as goal

abbrev pub invariant-loop-entry : goal.invariant-loop-entry
invariant-loop-entry l = l.number + number_in l.queue l.entry-iterator ≡ number_in l.queue (map.entries l.entries)
