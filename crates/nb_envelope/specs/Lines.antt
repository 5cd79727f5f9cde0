-- What an envelope line stands for, over what `serde_json` reads.
use Rattle.std.specs.Prelude.{◌≡◌, ℕ, List, [], ◌∷◌, length, nat_lt, if◌then◌else◌, Option, Some, None, Result, Ok, Err, codes}
use Rattle.std.specs.Str.{is_utf8}
use Rattle.serde_json.specs.Data.{Data, null, boolean, number, string, array, object, Members, no_members, member}
use Rattle.serde_json.specs.Read.{read}
use Rattle.serde_json.specs.Find.{get_member}
use Rattle.nb_base.specs.Messages.{Pairs, Message, has_id}
use Rattle.nb_envelope.specs.declared.line.LineFault.{LineFault}
use Rattle.nb_envelope.specs.declared.line.LineFault.TheVariants.{TooLong, NotJson, NotEnvelope, NoId, NoMemory}
use Rattle.nb_envelope.specs.declared.line.Place.TheVariants.{Root, Headers, Header, Body}

infixl 10 ◌>>=◌
abbrev pub ◌>>=◌ : {A B : Type 0} → Result A LineFault → (A → Result B LineFault) → Result B LineFault
(Ok x) >>= f = f x
(Err e) >>= f = Err e

-- what `serde_json` reads of the bytes: nothing where they are no UTF-8
abbrev pub json_of : List ℕ → Option Data
json_of bytes = if is_utf8 bytes then read bytes else None

-- a header before those that come after it: a text is kept, null is left out, and all else is refused
abbrev pub header_before : List ℕ → Data → Result Pairs LineFault → Result Pairs LineFault
header_before name null rest = rest
header_before name (string s) rest = rest >>= λ hs. Ok ((name, s) ∷ hs)
header_before name (boolean b) rest = Err (NotEnvelope (Header name))
header_before name (number n) rest = Err (NotEnvelope (Header name))
header_before name (array ds) rest = Err (NotEnvelope (Header name))
header_before name (object ms) rest = Err (NotEnvelope (Header name))

-- the headers of an object's members, which stand in the order of their names
abbrev pub headers_in : Members → Result Pairs LineFault
headers_in no_members = Ok []
headers_in (member k d ms) = header_before k d (headers_in ms)

abbrev pub headers_of : Option Data → Result Pairs LineFault
headers_of (Some (object ms)) = headers_in ms
headers_of _ = Err (NotEnvelope Headers)

abbrev pub body_of : Option Data → Result (List ℕ) LineFault
body_of None = Ok []
body_of (Some null) = Ok []
body_of (Some (string s)) = Ok s
body_of _ = Err (NotEnvelope Body)

abbrev pub named : Pairs → List ℕ → Result Message LineFault
named hs body = if has_id hs then Ok (record { headers = hs; body = body }) else Err NoId

abbrev pub message_in : Members → Result Message LineFault
message_in ms = headers_of (get_member (codes "headers") ms) >>= λ hs. body_of (get_member (codes "body") ms) >>= λ body. named hs body

abbrev pub message_of : Option Data → Result Message LineFault
message_of None = Err NotJson
message_of (Some (object ms)) = message_in ms
message_of (Some _) = Err (NotEnvelope Root)

-- the most bytes that a line has
abbrev pub most_line_bytes : ℕ
most_line_bytes = 262144

-- the message that a line is, or the first reason for which it is none
abbrev pub line_of : List ℕ → Result Message LineFault
line_of line = if nat_lt most_line_bytes (length line) then Err TooLong else message_of (json_of line)

-- What a call returned is what was meant, unless memory ran out.
abbrev pub Fails : {Y : Type 0} → LineFault → Result Y LineFault → Type 0
Fails NoMemory meant = Unit {0}
Fails e meant = meant ≡ Err e

abbrev pub Gives : {X : Type 0} → Result X LineFault → Result X LineFault → Type 0
Gives (Ok x) meant = meant ≡ Ok x
Gives (Err e) meant = Fails e meant

abbrev pub IsNotJsonUnless : Option Data → LineFault → Type 0
IsNotJsonUnless meant NoMemory = Unit {0}
IsNotJsonUnless meant NotJson = meant ≡ None
IsNotJsonUnless meant _ = ⊥
