-- The entries that stand in queues, and those that are delayed, in the order of the report.
use Rattle.std.specs.Prelude.{ℕ, List, Bool, Option, option_map, is_none}
use Rattle.std.specs.declared.cmp.Ordering.{Ordering}
use Rattle.std.specs.FinMap as map
use Rattle.std.specs.List.{filter, filter_map}
use Rattle.std.specs.Ordering.{is_lt, nat_cmp, ordering_then}
use Rattle.nb_base.specs.Orders.{ByNumber, name_cmp}
use Rattle.nb_base.specs.declared.tables.Queued.{Queued}
use Rattle.nb_report.specs.InOrder.{in_order}
use Rattle.nb_report.specs.declared.listed.QueueEntry.{QueueEntry}
use Rattle.nb_report.specs.declared.listed.DelayedEntry.{DelayedEntry}

-- ---- an entry under its number

-- it stands in its queue
abbrev pub stands : ℕ × Queued → Bool
stands e = is_none e.1.due

-- by the bytes of the queue, and then by number
abbrev pub queue_cmp : ℕ × Queued → ℕ × Queued → Ordering
queue_cmp a b = ordering_then (name_cmp a.1.queue b.1.queue) (nat_cmp a.0 b.0)

-- the entries that stand in queues, in this order
abbrev pub standing : ByNumber Queued → List (ℕ × Queued)
standing entries = in_order (λ a b. is_lt (queue_cmp a b)) (filter stands (map.entries entries))

-- ---- a due, and the entry that waits for it under its number

-- the entry with its due, where it has one
abbrev pub waiting : ℕ × Queued → Option (ℕ × ℕ × Queued)
waiting e = option_map (λ due. (due, e.0, e.1)) e.1.due

-- by due, and then by number
abbrev pub due_cmp : ℕ × ℕ × Queued → ℕ × ℕ × Queued → Ordering
due_cmp a b = ordering_then (nat_cmp a.0 b.0) (nat_cmp a.1 b.1)

-- the entries that are delayed, in this order
abbrev pub delayed : ByNumber Queued → List (ℕ × ℕ × Queued)
delayed entries = in_order (λ a b. is_lt (due_cmp a b)) (filter_map waiting (map.entries entries))

-- ---- what the code lists

abbrev pub entry_of : QueueEntry → ℕ × Queued
entry_of s = (s.number, s.entry.now)

abbrev pub due_of : DelayedEntry → ℕ × ℕ × Queued
due_of d = (d.due, d.number, d.entry.now)
