-- Entries and numbers read from their cells, or nothing where a cell is the spelling of none.
use Rattle.std.specs.Prelude.{◌==◌, ℕ, List, [], ◌∷◌, length, nat_lt, if◌then◌else◌, Option, Some, None}
use Rattle.nb_base.specs.declared.tables.Queued.{Queued}
use Rattle.nb_envelope.specs.Cells.{◌>>=◌, u64_in, text_in, due_in, envelope_in}

-- an envelope in a queue that is named
unfoldable pub queued_in : List ℕ → Option ℕ → List ℕ → Option (Queued × List ℕ)
queued_in queue due bytes = do
  envelope ← envelope_in bytes
  if nat_lt 0 (length queue) then Some (record { queue = queue; due = due; envelope = envelope.0 }, envelope.1) else None

-- a queue that is named, a due and an envelope
unfoldable pub content_in : List ℕ → Option (Queued × List ℕ)
content_in bytes = do
  queue ← text_in bytes
  due ← due_in queue.1
  queued_in queue.0 due.0 due.1

unfoldable pub entry_in : List ℕ → Option (Queued × List ℕ)
entry_in [] = None
entry_in (format ∷ rest) = if format == 1 then content_in rest else None

unfoldable pub next_in : List ℕ → Option (ℕ × List ℕ)
next_in [] = None
next_in (format ∷ rest) = if format == 1 then u64_in rest else None
