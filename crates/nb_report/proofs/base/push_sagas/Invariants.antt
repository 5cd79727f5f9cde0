use Rattle.std.proofs.Common.{◌≡◌, ◌++◌, string_bytes}
use Rattle.std.specs.List.{flat_map}
use Rattle.std.specs.FinMap as map
use Rattle.nb_report.specs.Lines.{saga_line}
use Rattle.nb_report.proofs.base.push_sagas.Given as goal

abbrev pub invariant-loop-place : goal.invariant-loop-place
invariant-loop-place l = string_bytes l.out ++ flat_map saga_line l.place-iterator ≡ string_bytes l.fn.out ++ flat_map saga_line (map.entries l.sagas)
