use Rattle.std.proofs.Common.{◌≡◌, ◌++◌, map as map_list}
use Rattle.std.specs.FinMap as map
use Rattle.std.specs.List.{filter_map}
use Rattle.nb_report.specs.Listed.{waiting, due_of}
use Rattle.nb_report.proofs.listed.all_delayed.Given as goal

abbrev pub invariant-loop-number : goal.invariant-loop-number
invariant-loop-number l = map_list due_of l.list.items ++ filter_map waiting l.number-iterator ≡ filter_map waiting (map.entries l.entries)
