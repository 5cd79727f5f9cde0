use Rattle.std.proofs.Common.{◌≡◌, string_bytes, take}
use Rattle.std.specs.List.{flat_map}
use Rattle.nb_report.specs.Lines.{discarded_line}
use Rattle.nb_report.proofs.reporting.discarded_lines.Given as goal

abbrev pub invariant-loop-discard : goal.invariant-loop-discard
invariant-loop-discard l = string_bytes l.out ≡ flat_map discarded_line (take l.discard-index l.discard-items)
