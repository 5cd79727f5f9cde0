-- Cells read from the left: a value and the bytes after it, or nothing where the bytes begin with no spelling.
use Rattle.std.specs.Prelude.{◌≡◌, ◌==◌, ◌++◌, ◌&&◌, ℕ, ℤ, zero, suc, List, [], ◌∷◌, length, take, drop, Bool, true, false, nat_lt, nat_le, is_none, if◌then◌else◌, Option, Some, None, Result, Ok, Err}
use Rattle.std.specs.Int.{Width, w32, w64, byte_len, from_be_bytes, cast_signed}
use Rattle.std.specs.Str.{is_utf8}
use Rattle.nb_base.specs.Messages.{Pairs, Message, header, has_id}
use Rattle.nb_base.specs.declared.value.Value.{Value}
use Rattle.nb_base.specs.declared.value.Value.TheVariants.{Int, Text, Bool as Truth}
use Rattle.nb_envelope.specs.declared.fault.FormatFault.{FormatFault}
use Rattle.nb_envelope.specs.declared.fault.FormatFault.TheVariants.{Damaged, NoMemory}

infixl 10 ◌>>=◌
abbrev pub ◌>>=◌ : {A B : Type 0} → Option A → (A → Option B) → Option B
None >>= f = None
(Some x) >>= f = f x

-- a number of so many bytes, the high one first
unfoldable pub number_in : Width → List ℕ → Option (ℕ × List ℕ)
number_in w bytes = if nat_lt (length bytes) (byte_len w) then None else Some (from_be_bytes w (take (byte_len w) bytes), drop (byte_len w) bytes)

abbrev pub u32_in : List ℕ → Option (ℕ × List ℕ)
u32_in bytes = number_in w32 bytes

abbrev pub u64_in : List ℕ → Option (ℕ × List ℕ)
u64_in bytes = number_in w64 bytes

-- a number in two's complement
unfoldable pub int_in : List ℕ → Option (ℤ × List ℕ)
int_in bytes = do
  n ← u64_in bytes
  Some (cast_signed w64 n.0, n.1)

unfoldable pub flag_in : List ℕ → Option (Bool × List ℕ)
flag_in [] = None
flag_in (b ∷ rest) = if b == 0 then Some (false, rest) else (if b == 1 then Some (true, rest) else None)

-- so many bytes, which are UTF-8
unfoldable pub text_of : ℕ → List ℕ → Option (List ℕ × List ℕ)
text_of n bytes = if nat_lt (length bytes) n then None else (if is_utf8 (take n bytes) then Some (take n bytes, drop n bytes) else None)

unfoldable pub text_in : List ℕ → Option (List ℕ × List ℕ)
text_in bytes = do
  n ← u32_in bytes
  text_of n.0 n.1

-- the value of a kind
unfoldable pub value_of : ℕ → List ℕ → Option (Value × List ℕ)
value_of kind bytes =
    if kind == 1 then (int_in bytes >>= λ x. Some (Int x.0, x.1))
    else (if kind == 2 then (text_in bytes >>= λ x. Some (Text x.0, x.1))
    else (if kind == 3 then (flag_in bytes >>= λ x. Some (Truth x.0, x.1))
    else None))

unfoldable pub value_in : List ℕ → Option (Value × List ℕ)
value_in [] = None
value_in (kind ∷ rest) = value_of kind rest

-- a number that is a moment
unfoldable pub moment_in : List ℕ → Option (ℕ × List ℕ)
moment_in bytes = do
  n ← u64_in bytes
  if nat_le n.0 253402300799 then Some n else None

unfoldable pub due_in : List ℕ → Option (Option ℕ × List ℕ)
due_in bytes = do
  there ← flag_in bytes
  if there.0 then (moment_in there.1 >>= λ m. Some (Some m.0, m.1)) else Some (None, there.1)

-- so many items, one after the other
unfoldable pub items_in : {A : Type 0} → (List ℕ → Option (A × List ℕ)) → ℕ → List ℕ → Option (List A × List ℕ)
items_in read zero bytes = Some ([], bytes)
items_in read (suc n) bytes = do
  first ← read bytes
  others ← items_in read n first.1
  Some (first.0 ∷ others.0, others.1)

-- a count, and that many items
unfoldable pub list_in : {A : Type 0} → (List ℕ → Option (A × List ℕ)) → List ℕ → Option (List A × List ℕ)
list_in read bytes = do
  n ← u32_in bytes
  items_in read n.0 n.1

unfoldable pub header_in : List ℕ → Option ((List ℕ × List ℕ) × List ℕ)
header_in bytes = do
  name ← text_in bytes
  text ← text_in name.1
  Some ((name.0, text.0), text.1)

-- each name once
abbrev pub are_distinct : Pairs → Bool
are_distinct [] = true
are_distinct (h ∷ hs) = is_none (header hs h.0) && are_distinct hs

-- headers that have names of their own
abbrev pub once_each : Pairs × List ℕ → Option (Pairs × List ℕ)
once_each hs = if are_distinct hs.0 then Some hs else None

unfoldable pub headers_in : List ℕ → Option (Pairs × List ℕ)
headers_in bytes = list_in header_in bytes >>= once_each

-- so many headers
unfoldable pub headers_of : ℕ → List ℕ → Option (Pairs × List ℕ)
headers_of n bytes = items_in header_in n bytes >>= once_each

-- the headers before, and one more with a name of its own
unfoldable pub added_in : Pairs → List ℕ → Option (Pairs × List ℕ)
added_in hs bytes = do
  h ← header_in bytes
  if is_none (header hs h.0.0) then Some (hs ++ h.0 ∷ [], h.1) else None

unfoldable pub envelope_in : List ℕ → Option (Message × List ℕ)
envelope_in bytes = do
  hs ← headers_in bytes
  body ← text_in hs.1
  if has_id hs.0 then Some (record { headers = hs.0; body = body.0 }, body.1) else None

-- a value with nothing after it
unfoldable pub whole : {A : Type 0} → (List ℕ → Option (A × List ℕ)) → List ℕ → Option A
whole read bytes = do
  x ← read bytes
  if length x.1 == 0 then Some x.0 else None

-- What a call returned, seen by view, is what was meant, unless memory ran out.
abbrev pub Fails : {Y : Type 0} → FormatFault → Option Y → Type 0
Fails Damaged meant = meant ≡ None
Fails NoMemory meant = Unit {0}

abbrev pub Gives : {X Y : Type 0} → (X → Y) → Result X FormatFault → Option Y → Type 0
Gives view (Ok x) meant = meant ≡ Some (view x)
Gives view (Err e) meant = Fails e meant
