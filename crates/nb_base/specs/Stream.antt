-- A source and a sink in memory: what each call of them answers, and what it leaves.
use Rattle.std.specs.Prelude.{ℕ, ◌+◌, ◌-◌, ◌^◌, List, [], ◌++◌, Bool, ◌==◌, ◌||◌, length, take, drop, min, if◌then◌else◌, Result, Ok, Err}
use Rattle.std.specs.List.{list_any}
use Rattle.nb_base.specs.declared.failed.Failed.{Failed}

-- the number of the next call or fault, up to the last number of its type
abbrev pub next : ℕ → ℕ
next n = min (n + 1) (2 ^ 64 - 1)

-- the call with this number is among those that fail
abbrev pub is_listed : List ℕ → ℕ → Bool
is_listed fails call = list_any (λ f. f == call) fails

-- a source: the bytes that are left, the most that a call moves, the calls that fail, and how many calls came and how
-- many of them failed
pub record Supply : Type 0 where
  pub bytes : List ℕ
  pub piece : ℕ
  pub fails : List ℕ
  pub calls : ℕ
  pub faults : ℕ

-- before the first call
abbrev pub supply : List ℕ → ℕ → List ℕ → Supply
supply bytes piece fails = record { bytes = bytes; piece = piece; fails = fails; calls = 0; faults = 0 }

-- the next read fails
abbrev pub read_fails : Supply → Bool
read_fails s = is_listed s.fails (next s.calls)

-- how many bytes a read into so much room moves, where it doesn't fail
abbrev pub read_count : Supply → ℕ → ℕ
read_count s room = min (min room s.piece) (length s.bytes)

abbrev pub read_answer : Supply → ℕ → Result ℕ Failed
read_answer s room = if read_fails s then Err (record {}) else Ok (read_count s room)

-- a source after a read into so much room
abbrev pub after_read : Supply → ℕ → Supply
after_read s room =
    if read_fails s then record s { calls = next s.calls; faults = next s.faults }
    else record s { bytes = drop (read_count s room) s.bytes; calls = next s.calls }

-- a sink: the bytes that it holds, the most that it has room for, and the rest as for a source
pub record Intake : Type 0 where
  pub bytes : List ℕ
  pub room : ℕ
  pub piece : ℕ
  pub fails : List ℕ
  pub calls : ℕ
  pub faults : ℕ

-- before the first call
abbrev pub empty_intake : ℕ → ℕ → List ℕ → Intake
empty_intake piece room fails = record { bytes = []; room = room; piece = piece; fails = fails; calls = 0; faults = 0 }

-- how many bytes of so many a write moves, where its call isn't listed
abbrev pub write_count : Intake → ℕ → ℕ
write_count s given = min (min given s.piece) (s.room - length s.bytes)

-- the next write fails: no room is left for any byte, or the call is listed
abbrev pub write_fails : Intake → ℕ → Bool
write_fails s given = (write_count s given == 0) || is_listed s.fails (next s.calls)

abbrev pub write_answer : Intake → ℕ → Result ℕ Failed
write_answer s given = if write_fails s given then Err (record {}) else Ok (write_count s given)

-- a sink after a write of these bytes
abbrev pub after_write : Intake → List ℕ → Intake
after_write s from =
    if write_fails s (length from) then record s { calls = next s.calls; faults = next s.faults }
    else record s { bytes = s.bytes ++ take (write_count s (length from)) from; calls = next s.calls }
