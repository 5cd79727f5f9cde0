-- The report of a state.
use Rattle.std.specs.Prelude.{ℕ, List, ◌++◌}
use Rattle.std.specs.FinMap as map
use Rattle.std.specs.List.{flat_map}
use Rattle.nb_base.specs.declared.tables.PostState.{PostState}
use Rattle.nb_base.specs.declared.tables.Tables.{Tables}
use Rattle.nb_core.specs.declared.state.State.{State}
use Rattle.nb_report.specs.Lines.{head, saga_line, row_line, record_line, queue_lines, delayed_line, discarded_line}
use Rattle.nb_report.specs.Listed.{standing, delayed}

-- sagas by type and then by value, rows by name, and records by id
abbrev pub base_lines : Tables → List ℕ
base_lines t = flat_map saga_line (map.entries t.sagas) ++ flat_map row_line (map.entries t.rows) ++ flat_map record_line (map.entries t.outbox)

-- the entries of the queues by queue and then by number, and the delayed ones by due and then by number
abbrev pub post_lines : PostState → List ℕ
post_lines p = flat_map queue_lines (standing p.entries) ++ flat_map delayed_line (delayed p.entries)

-- what stands at a moment, and what was given up, in order
unfoldable pub report : State → List ℕ
report s = head s.moment s.tables.commits s.post.next ++ base_lines s.tables ++ post_lines s.post ++ flat_map discarded_line s.discarded
