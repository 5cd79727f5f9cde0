-- Records read from their cells, or nothing where a cell is the spelling of none.
use Rattle.std.specs.Prelude.{◌==◌, ◌&&◌, ℕ, List, [], ◌∷◌, length, Bool, not, nat_lt, if◌then◌else◌, Option, Some, None}
use Rattle.std.specs.Str.{is_utf8}
use Rattle.nb_base.specs.declared.entry.Op.{Op}
use Rattle.nb_base.specs.declared.entry.OutboxRow.{OutboxRow}
use Rattle.nb_envelope.specs.Cells.{◌>>=◌, u64_in, flag_in, text_in, moment_in, due_in, list_in, envelope_in, whole}

-- an envelope to a queue that is named
unfoldable pub sent_to : List ℕ → Option ℕ → List ℕ → Option (Op × List ℕ)
sent_to queue due bytes = do
  envelope ← envelope_in bytes
  if nat_lt 0 (length queue) then Some (record { queue = queue; due = due; envelope = envelope.0 }, envelope.1) else None

-- a queue that is named, a due and an envelope
unfoldable pub op_in : List ℕ → Option (Op × List ℕ)
op_in bytes = do
  queue ← text_in bytes
  due ← due_in queue.1
  sent_to queue.0 due.0 due.1

-- messages that were sent are not kept
abbrev pub may_keep : Bool → List Op → Bool
may_keep sent ops = not (sent && nat_lt 0 (length ops))

-- whether the messages of a commit at a moment were sent, and the messages
unfoldable pub made_at : ℕ → ℕ → List ℕ → Option (OutboxRow × List ℕ)
made_at n at bytes = do
  sent ← flag_in bytes
  ops ← list_in op_in sent.1
  if may_keep sent.0 ops.0 then Some (record { n = n; at = at; sent = sent.0; ops = ops.0 }, ops.1) else None

unfoldable pub content_in : List ℕ → Option (OutboxRow × List ℕ)
content_in bytes = do
  n ← u64_in bytes
  at ← moment_in n.1
  made_at n.0 at.0 at.1

unfoldable pub record_in : List ℕ → Option (OutboxRow × List ℕ)
record_in [] = None
record_in (format ∷ rest) = if format == 1 then content_in rest else None

-- the record under an id
unfoldable pub record_of : List ℕ → List ℕ → Option OutboxRow
record_of id bytes = if is_utf8 id && nat_lt 0 (length id) then whole record_in bytes else None
