use Rattle.std.proofs.Common.{◌≡◌, string_bytes, take}
use Rattle.std.specs.List.{flat_map}
use Rattle.nb_report.specs.Lines.{field_part}
use Rattle.nb_report.proofs.base.field_parts.Given as goal

abbrev pub invariant-loop-field : goal.invariant-loop-field
invariant-loop-field l = string_bytes l.out ≡ flat_map field_part (take l.field-index l.field-items)
