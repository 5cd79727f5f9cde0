-- The lines of the report. Parts are parted by one space, and each line ends with a line feed; texts are JSON texts.
use Rattle.std.specs.Prelude.{ℕ, List, [], ◌∷◌, ◌++◌, length, Bool, true, false, nat_lt, if◌then◌else◌, codes}
use Rattle.std.specs.Fmt.{decimal, signed_decimal}
use Rattle.std.specs.List.{flat_map}
use Rattle.json.specs.Print.{quoted}
use Rattle.nb_base.specs.Messages.{Message}
use Rattle.nb_base.specs.declared.entry.OutboxRow.{OutboxRow}
use Rattle.nb_base.specs.declared.saga_key.SagaKey.{SagaKey}
use Rattle.nb_base.specs.declared.saga_row.SagaRow.{SagaRow}
use Rattle.nb_base.specs.declared.tables.Discard.{Discard}
use Rattle.nb_base.specs.declared.tables.Queued.{Queued}
use Rattle.nb_base.specs.declared.tables.Row.{Row}
use Rattle.nb_base.specs.declared.value.Field.{Field}
use Rattle.nb_headers.specs.HeaderNames.{enclosed_message_types, failed_q, exception_type, exception_message, time_of_failure, processing_endpoint}
use Rattle.nb_headers.specs.Moments.{moment_text}
use Rattle.nb_headers.specs.Reads.{header_or, id_of, round_of, failed_queue}
use Rattle.nb_recover.specs.Fails.{value_text}

-- the moment, the number of commits, and the number of the next entry, each on a line of its own
abbrev pub head : ℕ → ℕ → ℕ → List ℕ
head moment commits next =
    codes "moment " ++ moment_text moment ++ 10 ∷ codes "commits " ++ decimal commits ++ 10 ∷ codes "next " ++ decimal next ++ 10 ∷ []

-- ---- the base

-- a field of a saga, behind a space: the name as it is, and the value
abbrev pub field_part : Field → List ℕ
field_part f = 32 ∷ f.name ++ 61 ∷ value_text f.value

-- a saga's id, the commit that wrote it, and the reply address and the id of the message that started it
abbrev pub instance_part : SagaRow → List ℕ
instance_part row = quoted row.id ++ 32 ∷ decimal row.version ++ 32 ∷ quoted row.originator ++ 32 ∷ quoted row.original

-- a saga: its type as it is, the value of its correlation property, the instance, and its fields in order
abbrev pub saga_line : SagaKey × SagaRow → List ℕ
saga_line s = codes "saga " ++ s.0.saga ++ 32 ∷ value_text s.0.corr ++ 32 ∷ instance_part s.1 ++ flat_map field_part s.1.fields ++ 10 ∷ []

-- a row: its name, the commit that wrote it, and its value
abbrev pub row_line : List ℕ × Row → List ℕ
row_line r = codes "row " ++ quoted r.0 ++ 32 ∷ decimal r.1.version ++ 32 ∷ signed_decimal r.1.value ++ 10 ∷ []

-- whether the messages of a record were sent, or how many are to be sent
abbrev pub sending : Bool → ℕ → List ℕ
sending true count = codes "sent"
sending false count = codes "pending " ++ decimal count

-- a record: the message's id, the number of its commit, that commit's moment in seconds, and whether it is sent
abbrev pub record_line : List ℕ × OutboxRow → List ℕ
record_line r =
    codes "outbox " ++ quoted r.0 ++ 32 ∷ decimal r.1.n ++ 32 ∷ decimal r.1.at ++ 32 ∷ sending r.1.sent (length r.1.ops) ++ 10 ∷ []

-- ---- the post

-- the text of a header, empty where the header is absent
unfoldable pub header_text : Message → List ℕ → List ℕ
header_text m name = quoted (header_or m name [])

-- a message: its id, its types, its round of retries, and its body
abbrev pub message_part : Message → List ℕ
message_part m =
    quoted (id_of m) ++ 32 ∷ header_text m enclosed_message_types ++ 32 ∷ decimal (round_of m) ++ 32 ∷ quoted m.body

-- an entry that stands in a queue: the queue, its number and its message
abbrev pub queue_line : ℕ × Queued → List ℕ
queue_line e = codes "queue " ++ quoted e.1.queue ++ 32 ∷ decimal e.0 ++ 32 ∷ message_part e.1.envelope ++ 10 ∷ []

-- where a message failed, by which fault, its text, when, and which endpoint failed
abbrev pub fault_line : Message → List ℕ
fault_line m =
    codes "fault " ++ header_text m failed_q ++ 32 ∷ header_text m exception_type ++ 32 ∷ header_text m exception_message
    ++ 32 ∷ header_text m time_of_failure ++ 32 ∷ header_text m processing_endpoint ++ 10 ∷ []

-- the same, of a message that says where it failed
abbrev pub fault_lines : Message → List ℕ
fault_lines m = if nat_lt 0 (length (failed_queue m)) then fault_line m else []

-- what is said of an entry that stands in a queue
abbrev pub queue_lines : ℕ × Queued → List ℕ
queue_lines e = queue_line e ++ fault_lines e.1.envelope

-- an entry that is delayed: its due in seconds, its number, its queue and its message
abbrev pub delayed_line : ℕ × ℕ × Queued → List ℕ
delayed_line e =
    codes "delayed " ++ decimal e.0 ++ 32 ∷ decimal e.1 ++ 32 ∷ quoted e.2.queue ++ 32 ∷ message_part e.2.envelope ++ 10 ∷ []

-- ---- a message that was given up

-- its id, and the name of its fault
abbrev pub discarded_line : Discard → List ℕ
discarded_line d = codes "discarded " ++ quoted d.id ++ 32 ∷ quoted d.name ++ 10 ∷ []
