-- The least free one of some numbers, and the one that comes due first.
use Rattle.std.specs.Prelude.{ℕ, nat_lt, if◌then◌else◌, Option, Some, None, option_map}
use Rattle.nb_base.specs.declared.entry.Waiting.{Waiting}
use Rattle.nb_ready.specs.Seats.{Seats, is_free, IsLeastFree, IsFirstDue}
use Rattle.nb_ready.specs.declared.first.First.{First}
use Rattle.nb_ready.specs.declared.seat.Seat.{Seat}

-- the one that comes due first, and the left one of two that come due together
abbrev pub earlier : Option Waiting → Option Waiting → Option Waiting
earlier None high = high
earlier (Some l) None = Some l
earlier (Some l) (Some h) = if nat_lt h.due l.due then Some h else Some l

abbrev pub or_else : Option ℕ → Option ℕ → Option ℕ
or_else None high = high
or_else (Some n) high = Some n

-- of one number
abbrev pub first_of : ℕ → Seat → First
first_of n s = record { free = (if is_free s then Some n else None); due = option_map (λ due. record { number = n; due = due }) s.due }

-- of some numbers and of greater ones
abbrev pub both_first : First → First → First
both_first low high = record { free = or_else low.free high.free; due = earlier low.due high.due }

pub record IsFirst (m : Seats) (f : First) : Type 0 where
  pub free : IsLeastFree m f.free
  pub due : IsFirstDue m f.due
