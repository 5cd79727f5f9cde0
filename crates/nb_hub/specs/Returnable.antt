-- The entries of the error queue that can be put back.
use Rattle.std.specs.Prelude.{ℕ, Bool, List, ◌&&◌, bytes_eq, is_none, nat_lt, length, if◌then◌else◌, Option, Some, None}
use Rattle.std.specs.FinMap as map
use Rattle.std.specs.List.{filter_map}
use Rattle.nb_base.specs.declared.tables.Queued.{Queued}
use Rattle.nb_core.specs.Standing.{Constants}
use Rattle.nb_core.specs.declared.state.State.{State}
use Rattle.nb_headers.specs.Reads.{failed_queue}

-- the entry stands in the error queue, and says where it failed
abbrev pub is_returnable : List ℕ → Queued → Bool
is_returnable error e = bytes_eq e.queue error && (is_none e.due && nat_lt 0 (length (failed_queue e.envelope)))

abbrev pub returning : List ℕ → ℕ × Queued → Option ℕ
returning error e = if is_returnable error e.1 then Some e.0 else None

-- their numbers, rising
abbrev pub returnable : Constants → State → List ℕ
returnable c s = filter_map (returning c.settings.error) (map.entries s.post.entries)
