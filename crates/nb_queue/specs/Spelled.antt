-- The one spelling of an entry and of the next number in cells, and which entries have one.
use Rattle.std.specs.Prelude.{◌≢◌, ◌<◌, ◌^◌, ℕ, List, [], ◌∷◌, ◌++◌}
use Rattle.nb_base.specs.declared.tables.Queued.{Queued}
use Rattle.nb_envelope.specs.Spelling.{spelled_u64, spelled_text, spelled_due, spelled_envelope, IsText, IsDue, IsEnvelope}

-- the queue, the due and the envelope
abbrev pub spelled_content : Queued → List ℕ
spelled_content e = spelled_text e.queue ++ spelled_due e.due ++ spelled_envelope e.envelope

-- format 1, and the content
abbrev pub spelled_entry : Queued → List ℕ
spelled_entry e = 1 ∷ spelled_content e

-- format 1, and the number
abbrev pub spelled_next : ℕ → List ℕ
spelled_next n = 1 ∷ spelled_u64 n

-- what has a spelling
pub record IsEntry (e : Queued) : Type 0 where
  pub queue : IsText e.queue
  pub named : e.queue ≢ []
  pub due : IsDue e.due
  pub envelope : IsEnvelope e.envelope

abbrev pub IsNumber : ℕ → Type 0
IsNumber n = n < 2 ^ 64
