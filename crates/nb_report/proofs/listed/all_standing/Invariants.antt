use Rattle.std.proofs.Common.{◌≡◌, ◌++◌, map as map_list}
use Rattle.std.specs.FinMap as map
use Rattle.std.specs.List.{filter}
use Rattle.nb_report.specs.Listed.{stands, entry_of}
use Rattle.nb_report.proofs.listed.all_standing.Given as goal

abbrev pub invariant-loop-number : goal.invariant-loop-number
invariant-loop-number l = map_list entry_of l.list.items ++ filter stands l.number-iterator ≡ filter stands (map.entries l.entries)
