-- What the calls make of tables.
use Rattle.std.specs.Prelude.{◌≢◌, ℕ, ◌+◌, List, [], ◌∷◌, ◌++◌, false, unwrap_or}
use Rattle.std.specs.FinMap as map
use Rattle.std.specs.List.{AllByRecursion}
use Rattle.nb_base.specs.Meanings.{place_of}
use Rattle.nb_base.specs.Messages.{Message, header, id_name}
use Rattle.nb_base.specs.Shown.{stored}
use Rattle.nb_base.specs.declared.entry.Op.{Op}
use Rattle.nb_base.specs.declared.entry.OutboxRow.{OutboxRow}
use Rattle.nb_base.specs.declared.plan.Write.{Write}
use Rattle.nb_base.specs.declared.tables.Tables.{Tables}
use Rattle.nb_cells.specs.declared.change.Change.{Change}
use Rattle.nb_cells.specs.declared.change.Change.TheVariants.{Put}
use Rattle.nb_outbox.specs.Spelled.{sent_record, spelled_record}
use Rattle.nb_saga_store.specs.Writes.{all_written, changes_of}
use Rattle.nb_store.specs.CellMaps.{spelled_count}

-- the text of the header that names the message
abbrev pub id_of : Message → List ℕ
id_of m = unwrap_or (header m.headers id_name) []

-- no two of the writes go to one place
abbrev pub HaveApartPlaces : List Write → Type 0
HaveApartPlaces [] = Unit {0}
HaveApartPlaces (w ∷ ws) = AllByRecursion (λ v. place_of w ≢ place_of v) ws × HaveApartPlaces ws

-- the record of the next commit, which handled a message at a moment and sends these ops
abbrev pub new_record : Tables → ℕ → List Op → OutboxRow
new_record t moment ops = record { n = t.commits + 1; at = moment; sent = false; ops = ops }

-- the tables after the next commit, of these writes and with this record of its message
abbrev pub handled : List ℕ → Tables → List ℕ → List Write → OutboxRow → Tables
handled endpoint t id writes r =
    let written = all_written endpoint (t.commits + 1) (stored t) writes in
    record { sagas = written.sagas; rows = written.rows; outbox = map.insert t.outbox id r; commits = t.commits + 1 }

-- the tables after the next commit, by which the message with this id was handled at a moment
abbrev pub committed : List ℕ → Tables → List ℕ → ℕ → List Write → List Op → Tables
committed endpoint t id moment writes ops = handled endpoint t id writes (new_record t moment ops)

-- the tables once the messages of this record were sent
abbrev pub marked : Tables → List ℕ → OutboxRow → Tables
marked t id r = record t { outbox = map.insert t.outbox id (sent_record r) }

-- the tables without the record of a message
abbrev pub purged : Tables → List ℕ → Tables
purged t id = record t { outbox = map.remove t.outbox id }

-- the changes of a commit: those of its writes, the record of its message, and the number of commits
abbrev pub commit_changes : List ℕ → List ℕ → List Write → OutboxRow → List Change
commit_changes endpoint id writes r = (changes_of endpoint r.n writes ++ Put 4 id (spelled_record r) ∷ []) ++ Put 1 [] (spelled_count r.n) ∷ []
