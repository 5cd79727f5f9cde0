-- What headers say of a message: its id, its type and its round of retries.
use Rattle.std.specs.Prelude.{ℕ, ◌-◌, List, [], ◌∷◌, length, take, drop, Bool, ◌&&◌, ◌==◌, nat_le, bytes_eq, if◌then◌else◌, Option, None, unwrap_or, option_and_then, position}
use Rattle.std.specs.Char.{is_ascii_digit}
use Rattle.std.specs.List.{list_all, slice_split, before_first, prefix_len, suffix_len}
use Rattle.std.specs.Option.{option_map_or, option_or}
use Rattle.std.specs.Str.Parse.{digits_value}
use Rattle.nb_base.specs.Messages.{Message, header, id_name}
use Rattle.nb_headers.specs.HeaderNames.{enclosed_message_types, failed_q, retries}

-- the text of the header, or this one where the header is absent
abbrev pub header_or : Message → List ℕ → List ℕ → List ℕ
header_or m name otherwise = unwrap_or (header m.headers name) otherwise

-- the message's id
unfoldable pub id_of : Message → List ℕ
id_of m = header_or m id_name []

-- the queue in which the message failed, empty where it didn't fail
unfoldable pub failed_queue : Message → List ℕ
failed_queue m = header_or m failed_q []

-- ---- the type

abbrev pub is_space : ℕ → Bool
is_space c = c == 32

-- the text without the spaces at its start
abbrev pub trimmed_start : List ℕ → List ℕ
trimmed_start text = drop (prefix_len is_space text) text

-- the text without the spaces at its end
abbrev pub trimmed_end : List ℕ → List ℕ
trimmed_end text = take (length text - suffix_len is_space text) text

-- the name that an entry gives: what stands before its first comma, without the spaces round it
abbrev pub type_name : List ℕ → List ℕ
type_name entry = trimmed_end (trimmed_start (before_first (λ c. c == 44) entry))

-- the entries, which are parted by semicolons
abbrev pub entries_of : List ℕ → List (List ℕ)
entries_of text = slice_split (λ c. c == 59) text

-- the position of the first name that is declared
abbrev pub first_declared : List (List ℕ) → List (List ℕ) → Option ℕ
first_declared declared [] = None
first_declared declared (entry ∷ entries) = option_or (position (bytes_eq (type_name entry)) declared) (first_declared declared entries)

-- the declared type of the message, as its position
unfoldable pub message_type : Message → List (List ℕ) → Option ℕ
message_type m declared = option_and_then (λ text. first_declared declared (entries_of text)) (header m.headers enclosed_message_types)

-- ---- the round of retries

-- one to four digits with a value of at most a thousand
abbrev pub is_round : List ℕ → Bool
is_round text = nat_le 1 (length text) && nat_le (length text) 4 && list_all is_ascii_digit text && nat_le (digits_value 10 text) 1000

-- the round that a text gives, 0 where it gives none
abbrev pub round_in : List ℕ → ℕ
round_in text = if is_round text then digits_value 10 text else 0

-- the message's round of delayed retries, 0 where it has had none
unfoldable pub round_of : Message → ℕ
round_of m = option_map_or round_in (header m.headers retries) 0
