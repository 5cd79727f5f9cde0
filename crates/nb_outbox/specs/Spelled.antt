-- The one spelling of the record of a handled message in a cell, and which records have one.
use Rattle.std.specs.Prelude.{◌≡◌, ◌≢◌, ◌<◌, ◌≤◌, ◌^◌, ℕ, List, [], ◌∷◌, ◌++◌, true}
use Rattle.nb_base.specs.declared.entry.Op.{Op}
use Rattle.nb_base.specs.declared.entry.OutboxRow.{OutboxRow}
use Rattle.nb_cells.specs.declared.cell.Cell.{Cell}
use Rattle.nb_envelope.specs.Spelling.{spelled_u64, spelled_flag, spelled_text, spelled_due, spelled_list, spelled_envelope, IsText, IsDue, IsList, IsEnvelope}

-- the queue, the due and the envelope
abbrev pub spelled_op : Op → List ℕ
spelled_op op = spelled_text op.queue ++ spelled_due op.due ++ spelled_envelope op.envelope

-- format 1, the number of the commit, its moment, whether the messages were sent, and the messages
abbrev pub spelled_record : OutboxRow → List ℕ
spelled_record r = (1 ∷ []) ++ spelled_u64 r.n ++ spelled_u64 r.at ++ spelled_flag r.sent ++ spelled_list spelled_op r.ops

abbrev pub cell_of_record : List ℕ → OutboxRow → Cell
cell_of_record id r = record { space = 4; key = id; bytes = spelled_record r }

-- the record once its messages were sent
abbrev pub sent_record : OutboxRow → OutboxRow
sent_record r = record r { sent = true; ops = [] }

-- ---- what has a spelling

abbrev pub IsId : List ℕ → Type 0
IsId id = IsText id × (id ≢ [])

pub record IsOp (op : Op) : Type 0 where
  pub queue : IsText op.queue
  pub named : op.queue ≢ []
  pub due : IsDue op.due
  pub envelope : IsEnvelope op.envelope

-- a record that was sent has no messages
pub record IsRecord (r : OutboxRow) : Type 0 where
  pub number : r.n < 2 ^ 64
  pub moment : r.at ≤ 253402300799
  pub ops : IsList IsOp r.ops
  pub sent : r.sent ≡ true → r.ops ≡ []
