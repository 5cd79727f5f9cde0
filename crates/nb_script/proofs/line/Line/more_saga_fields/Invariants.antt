use Rattle.std.proofs.Common.{drop, ◌≡◌, ◌++◌}
use Rattle.nb_script.specs.Printing.{all_of, behind_comma, saga_field}
use Rattle.nb_script.proofs.line.Line.more_saga_fields.Given as goal

abbrev pub invariant-loop-field : goal.invariant-loop-field
invariant-loop-field l = l.fn.self ++ all_of (behind_comma saga_field) l.fields ≡ l.self ++ all_of (behind_comma saga_field) (drop l.field-index l.fields)
