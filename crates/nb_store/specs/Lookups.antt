-- Records that may go.
use Rattle.std.specs.Prelude.{◌≡◌, ℕ, ◌+◌, ◌≤◌, List, ◌&&◌, nat_le, true, if◌then◌else◌, Option, Some, None}
use Rattle.std.specs.FinMap as map
use Rattle.std.specs.List.{filter_map}
use Rattle.nb_base.specs.declared.entry.OutboxRow.{OutboxRow}
use Rattle.nb_base.specs.declared.tables.Tables.{Tables}

-- the record is there, was sent, and has stood for so long at the moment
abbrev pub CanGo : Tables → ℕ → ℕ → List ℕ → Type 0
CanGo t retention moment id = (r : OutboxRow) × (map.get t.outbox id ≡ Some r) × (r.sent ≡ true) × (r.at + retention ≤ moment)

-- the id of the record, where it may go
abbrev pub going : ℕ → ℕ → List ℕ × OutboxRow → Option (List ℕ)
going retention moment e = if e.1.sent && nat_le (e.1.at + retention) moment then Some e.0 else None

-- the ids of the records that may go, by their bytes
abbrev pub purgeable : Tables → ℕ → ℕ → List (List ℕ)
purgeable t retention moment = filter_map (going retention moment) (map.entries t.outbox)
