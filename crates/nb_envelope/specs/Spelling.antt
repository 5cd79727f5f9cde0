-- The one spelling of a value in a cell, and which values have one.
use Rattle.std.specs.Prelude.{◌<◌, ◌≤◌, ◌^◌, ℕ, ℤ, List, [], ◌∷◌, ◌++◌, length, Bool, true, false, Option, Some, None, IsUtf8, FitsSigned}
use Rattle.std.specs.Int.{w32, w64, to_be_bytes, cast_unsigned}
use Rattle.std.specs.List.{flat_map, AllByRecursion}
use Rattle.nb_base.specs.Messages.{Message, IsMessage}
use Rattle.nb_base.specs.declared.value.Value.{Value}
use Rattle.nb_base.specs.declared.value.Value.TheVariants.{Int, Text, Bool as Truth}

-- four bytes, the high one first
unfoldable pub spelled_u32 : ℕ → List ℕ
spelled_u32 n = to_be_bytes w32 n

-- eight bytes, the high one first
unfoldable pub spelled_u64 : ℕ → List ℕ
spelled_u64 n = to_be_bytes w64 n

-- eight bytes in two's complement, the high one first
abbrev pub spelled_int : ℤ → List ℕ
spelled_int z = spelled_u64 (cast_unsigned w64 z)

-- one byte, 0 or 1
abbrev pub spelled_flag : Bool → List ℕ
spelled_flag false = 0 ∷ []
spelled_flag true = 1 ∷ []

-- the count of its bytes, and the bytes
abbrev pub spelled_text : List ℕ → List ℕ
spelled_text t = spelled_u32 (length t) ++ t

-- the kind, and the number, the text or the flag
abbrev pub spelled_value : Value → List ℕ
spelled_value (Int z) = 1 ∷ spelled_int z
spelled_value (Text t) = 2 ∷ spelled_text t
spelled_value (Truth b) = 3 ∷ spelled_flag b

-- a flag, and the seconds of the moment where there is one
abbrev pub spelled_due : Option ℕ → List ℕ
spelled_due None = spelled_flag false
spelled_due (Some m) = spelled_flag true ++ spelled_u64 m

-- the count of the items, and the items
abbrev pub spelled_list : {A : Type 0} → (A → List ℕ) → List A → List ℕ
spelled_list spelled xs = spelled_u32 (length xs) ++ flat_map spelled xs

-- the name and the text
abbrev pub spelled_header : List ℕ × List ℕ → List ℕ
spelled_header h = spelled_text h.0 ++ spelled_text h.1

-- the headers in their order, and the body
abbrev pub spelled_envelope : Message → List ℕ
spelled_envelope m = spelled_list spelled_header m.headers ++ spelled_text m.body

-- ---- what has a spelling

abbrev pub IsText : List ℕ → Type 0
IsText t = IsUtf8 t × (length t < 2 ^ 32)

abbrev pub IsValue : Value → Type 0
IsValue (Int z) = FitsSigned w64 z
IsValue (Text t) = IsText t
IsValue (Truth b) = Unit {0}

abbrev pub IsDue : Option ℕ → Type 0
IsDue None = Unit {0}
IsDue (Some m) = m ≤ 253402300799

abbrev pub IsHeader : List ℕ × List ℕ → Type 0
IsHeader h = IsText h.0 × IsText h.1

abbrev pub IsList : {A : Type 0} → (A → Type 0) → List A → Type 0
IsList Is xs = (length xs < 2 ^ 32) × AllByRecursion Is xs

-- each name once, an id, and texts that have spellings
pub record IsEnvelope (m : Message) : Type 0 where
  pub message : IsMessage m
  pub headers : IsList IsHeader m.headers
  pub body : IsText m.body
