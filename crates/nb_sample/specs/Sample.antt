-- The lines of the sample's input.
use Rattle.std.specs.Prelude.{ℕ, ◌+◌, ◌-◌, ◌%◌, ◌==◌, List, [], ◌∷◌, if◌then◌else◌}
use Rattle.nb_base.specs.Messages.{Message, id_name}
use Rattle.nb_headers.specs.HeaderNames.{enclosed_message_types}
use Rattle.nb_envelope.specs.Written.{line_text}
use Rattle.nb_sample.specs.Ids.{sample_id}
use Rattle.nb_sample.specs.Kinds.{kind_of, type_name, body_of}

-- the message with the number i
abbrev pub sample_message : ℕ → ℕ → Message
sample_message seed i = record {
  headers = (id_name, sample_id seed i) ∷ (enclosed_message_types, type_name (kind_of (seed + i))) ∷ [];
  body = body_of (kind_of (seed + i)) (seed + i);
}

-- the number of the message in the line with the number i: each tenth line is the one before it once more
abbrev pub message_number : ℕ → ℕ
message_number i = if i % 10 == 0 then i - 1 else i

-- the line with the number i, counted from 1
abbrev pub sample_line : ℕ → ℕ → List ℕ
sample_line seed i = line_text (sample_message seed (message_number i))
