use Rattle.std.proofs.Common.{◌≡◌, ◌++◌, string_bytes}
use Rattle.std.specs.List.{flat_map}
use Rattle.std.specs.FinMap as map
use Rattle.nb_report.specs.Lines.{row_line}
use Rattle.nb_report.proofs.base.push_rows.Given as goal

abbrev pub invariant-loop-name : goal.invariant-loop-name
invariant-loop-name l = string_bytes l.out ++ flat_map row_line l.name-iterator ≡ string_bytes l.fn.out ++ flat_map row_line (map.entries l.rows)
