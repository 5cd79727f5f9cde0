use Rattle.std.proofs.Common.{◌≡◌, ◌++◌, string_bytes, take, map}
use Rattle.std.specs.List.{flat_map}
use Rattle.nb_report.specs.Lines.{delayed_line}
use Rattle.nb_report.specs.Listed.{due_of}
use Rattle.nb_report.proofs.post.push_delayed.Given as goal

abbrev pub invariant-loop-entry : goal.invariant-loop-entry
invariant-loop-entry l = string_bytes l.out ≡ string_bytes l.fn.out ++ flat_map delayed_line (map due_of (take l.entry-index l.list))
