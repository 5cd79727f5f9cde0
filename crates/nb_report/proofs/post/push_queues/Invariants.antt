use Rattle.std.proofs.Common.{◌≡◌, ◌++◌, string_bytes, take, map}
use Rattle.std.specs.List.{flat_map}
use Rattle.nb_report.specs.Lines.{queue_lines}
use Rattle.nb_report.specs.Listed.{entry_of}
use Rattle.nb_report.proofs.post.push_queues.Given as goal

abbrev pub invariant-loop-entry : goal.invariant-loop-entry
invariant-loop-entry l = string_bytes l.out ≡ string_bytes l.fn.out ++ flat_map queue_lines (map entry_of (take l.entry-index l.list))
