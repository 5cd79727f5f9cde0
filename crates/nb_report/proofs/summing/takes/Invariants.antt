use Rattle.std.proofs.Common.{◌≡◌, take}
use Rattle.nb_core.specs.Past.{taken}
use Rattle.nb_report.proofs.summing.takes.Given as goal

abbrev pub invariant-loop-event : goal.invariant-loop-event
invariant-loop-event l = l.takes ≡ taken 0 (take l.event-index l.event-items)
