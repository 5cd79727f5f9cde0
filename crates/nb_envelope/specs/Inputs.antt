-- What an input of lines stands for: its messages in order, or the first bad line.
use Rattle.std.specs.Prelude.{◌≡◌, ℕ, ◌+◌, List, [], ◌∷◌, ◌++◌, length, take, count_by, Bool, false, ◌==◌, nat_lt, if◌then◌else◌, Option, Some, None, Result, Ok, Err}
use Rattle.std.specs.Str.Lines.{lines}
use Rattle.nb_base.specs.Messages.{Message}
use Rattle.nb_envelope.specs.Lines.{line_of}
use Rattle.nb_envelope.specs.declared.line.LineFault.{LineFault}
use Rattle.nb_envelope.specs.declared.input.InputFault.{InputFault}
use Rattle.nb_envelope.specs.declared.input.InputKind.{InputKind}
use Rattle.nb_envelope.specs.declared.input.InputKind.TheVariants.{TooMuch, TooMany, Line, NoMemory}

-- the most bytes that an input has
abbrev pub most_bytes : ℕ
most_bytes = 16777216

-- the most lines that an input has
abbrev pub most_lines : ℕ
most_lines = 100000

-- the line of the first byte past the limit
abbrev pub line_past : List ℕ → Option ℕ
line_past input = if nat_lt most_bytes (length input) then Some (count_by (λ b. b == 10) (take most_bytes input) + 1) else None

abbrev pub is_at : Option ℕ → ℕ → Bool
is_at None n = false
is_at (Some m) n = m == n

abbrev pub bad : ℕ → InputKind → InputFault
bad n kind = record { line = n; kind = kind }

abbrev pub of_line : ℕ → Result Message LineFault → Result (List Message) InputFault
of_line n (Ok m) = Ok (m ∷ [])
of_line n (Err e) = Err (bad n (Line e))

-- an empty line stands for nothing
abbrev pub line_unless_empty : ℕ → List ℕ → Result (List Message) InputFault
line_unless_empty n l = if length l == 0 then Ok [] else of_line n (line_of l)

abbrev pub line_at : Option ℕ → ℕ → List ℕ → Result (List Message) InputFault
line_at past n l = if is_at past n then Err (bad n TooMuch) else (if nat_lt most_lines n then Err (bad n TooMany) else line_unless_empty n l)

infixl 10 ◌>>>◌
abbrev pub ◌>>>◌ : {A B : Type 0} → Result A InputFault → (A → Result B InputFault) → Result B InputFault
(Ok x) >>> f = f x
(Err e) >>> f = Err e

-- the messages of the lines from number n on
abbrev pub messages_from : Option ℕ → ℕ → List (List ℕ) → Result (List Message) InputFault
messages_from past n [] = Ok []
messages_from past n (l ∷ ls) = line_at past n l >>> λ ms. messages_from past (n + 1) ls >>> λ more. Ok (ms ++ more)

-- the messages of an input, cut at line feeds
abbrev pub messages_of : List ℕ → Result (List Message) InputFault
messages_of input = messages_from (line_past input) 1 (lines input)

-- What a call returned is what was meant, unless memory ran out.
abbrev pub Fails : {Y : Type 0} → InputKind → InputFault → Result Y InputFault → Type 0
Fails NoMemory e meant = e.line ≡ 0
Fails kind e meant = meant ≡ Err e

abbrev pub Gives : {X : Type 0} → Result X InputFault → Result X InputFault → Type 0
Gives (Ok x) meant = meant ≡ Ok x
Gives (Err e) meant = Fails e.kind e meant

abbrev pub one_or_none : Option Message → List Message
one_or_none None = []
one_or_none (Some m) = m ∷ []

abbrev pub GivesSome : Result (Option Message) InputFault → Result (List Message) InputFault → Type 0
GivesSome (Ok o) meant = meant ≡ Ok (one_or_none o)
GivesSome (Err e) meant = Fails e.kind e meant
