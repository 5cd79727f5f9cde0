use Rattle.std.proofs.Common.{◌≡◌, ◌++◌, string_bytes}
use Rattle.std.specs.List.{flat_map}
use Rattle.std.specs.FinMap as map
use Rattle.nb_report.specs.Lines.{record_line}
use Rattle.nb_report.proofs.base.push_records.Given as goal

abbrev pub invariant-loop-id : goal.invariant-loop-id
invariant-loop-id l = string_bytes l.out ++ flat_map record_line l.id-iterator ≡ string_bytes l.fn.out ++ flat_map record_line (map.entries l.records)
