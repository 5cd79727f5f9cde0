-- What a look at the records tells.
use Rattle.std.specs.Prelude.{◌≡◌, ℕ, Option, Some, None}
use Rattle.std.specs.FinMap as map
use Rattle.nb_base.specs.Messages.{Message}
use Rattle.nb_base.specs.declared.entry.OutboxRow.{OutboxRow}
use Rattle.nb_base.specs.declared.tables.Tables.{Tables}
use Rattle.nb_core.specs.Changes.{phase_by}
use Rattle.nb_headers.specs.Reads.{id_of}
use Rattle.nb_hub.specs.declared.looking.Known.{Known}

-- the message is recorded, and its record leads its worker to this; or it is new
abbrev pub Recorded : Tables → ℕ → Message → Option Known → Type 0
Recorded t n m None = map.get t.outbox (id_of m) ≡ None
Recorded t n m (Some k) = (r : OutboxRow) × (map.get t.outbox (id_of m) ≡ Some r) × (k.phase ≡ phase_by r.sent n (id_of m) r.ops) × (k.sent ≡ r.sent)
