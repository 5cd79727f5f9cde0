-- What is told of the outside.
use Rattle.std.specs.Prelude.{◌≡◌, ℕ, Option, Some, None}

-- the value is the one that was told, where one was
abbrev pub IsTold : Option ℕ → ℕ → Type 0
IsTold None n = Unit {0}
IsTold (Some told) n = n ≡ told
