-- The entries of a queue, and those that wait for a moment.
use Rattle.std.specs.Prelude.{ℕ, List, bytes_eq, ◌&&◌, is_none, is_some, if◌then◌else◌, unwrap_or, Option, Some, None}
use Rattle.std.specs.FinMap as map
use Rattle.std.specs.List.{filter_map}
use Rattle.std.specs.List.Sorted.{IsPermutation, IsSortedByKey, IsStableByKey}
use Rattle.std.specs.Ordering.{nat_cmp}
use Rattle.nb_base.specs.Orders.{ByNumber}
use Rattle.nb_base.specs.declared.entry.Entry.{Entry}
use Rattle.nb_base.specs.declared.tables.Queued.{Queued}

-- the entry with its number
abbrev pub entry_of : ℕ × Queued → Entry
entry_of e = record { number = e.0; queue = e.1.queue; due = e.1.due; envelope = e.1.envelope }

-- the entry with its number, where it stands in the queue
abbrev pub standing_in : List ℕ → ℕ × Queued → Option Entry
standing_in queue e = if bytes_eq e.1.queue queue && is_none e.1.due then Some (entry_of e) else None

-- the entries that stand in the queue, by their numbers
abbrev pub standing : List ℕ → ByNumber Queued → List Entry
standing queue entries = filter_map (standing_in queue) (map.entries entries)

-- the entry with its number, where it has a due
abbrev pub waiting_in : ℕ × Queued → Option Entry
waiting_in e = if is_some e.1.due then Some (entry_of e) else None

-- the entries with a due, by their numbers
abbrev pub waiting : ByNumber Queued → List Entry
waiting entries = filter_map waiting_in (map.entries entries)

-- the seconds of the due, where there is one
abbrev pub due_of : Entry → ℕ
due_of e = unwrap_or e.due 0

-- the entries with a due, by the due; those with one due stand by their numbers
pub record AreDelayed (entries : ByNumber Queued) (list : List Entry) : Type 0 where
  pub all : IsPermutation (waiting entries) list
  pub order : IsSortedByKey due_of nat_cmp list
  pub ties : IsStableByKey due_of nat_cmp (waiting entries) list
