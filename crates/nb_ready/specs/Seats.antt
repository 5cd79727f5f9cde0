-- What is known of numbers.
use Rattle.std.specs.Prelude.{◌≡◌, ℕ, ◌^◌, ◌<◌, ◌≤◌, List, Bool, true, false, ◌&&◌, not, is_none, nat_lt, if◌then◌else◌, Option, Some, None, refl}
use Rattle.std.specs.Coded.{Coded, code_by, coded×, coded_ℕ, coded_bool, coded_option}
use Rattle.std.specs.FinMap as finite
use Rattle.std.specs.List.{filter_map}
use Rattle.std.specs.Option.{option_map_or}
use Rattle.std.specs.Ordering.{nat_cmp}
use Rattle.nb_base.specs.declared.entry.Count.{Count}
use Rattle.nb_base.specs.declared.entry.Waiting.{Waiting}
use Rattle.nb_ready.specs.declared.seat.Seat.{Seat}

-- the due of each number or none, whether it is held, and its count of failures
abbrev pub Seats : Type 0
Seats = finite.FinMap nat_cmp Seat

abbrev pub seat_code : Coded Seat
seat_code = code_by (Option ℕ × (Bool × ℕ)) (coded× (coded_option coded_ℕ) (coded× coded_bool coded_ℕ)) (λ s. (s.due, (s.held, s.count))) (λ p. record { due = p.0; held = p.1.0; count = p.1.1 }) (λ _. refl)

abbrev pub seats_code : Coded Seats
seats_code = finite.code coded_ℕ seat_code

-- what is known of the numbers of a tree, and its height
abbrev pub Shown : Type 0
Shown = Seats × ℕ

abbrev pub shown_code : Coded Shown
shown_code = coded× seats_code coded_ℕ

-- no due, and not held
abbrev pub is_free : Seat → Bool
is_free s = is_none s.due && not s.held

-- a number that was just added
abbrev pub fresh : Option ℕ → Seat
fresh due = record { due = due; held = false; count = 0 }

-- the number is there, and this is known of it
abbrev pub Has : Seats → ℕ → Seat → Type 0
Has m n s = finite.get m n ≡ Some s

-- the number is there, and what is known of it passes the test
abbrev pub HasA : (Seat → Bool) → Seats → ℕ → Type 0
HasA test m n = (s : Seat) × Has m n s × (test s ≡ true)

-- the numbers lie from the first one to the second
abbrev pub LiesWithin : Seats → ℕ → ℕ → Type 0
LiesWithin m from to = (q : ℕ) (s : Seat) → Has m q s → (from ≤ q) × (q ≤ to)

-- what is known of one number has changed
abbrev pub changed_at : Seats → ℕ → (Seat → Seat) → Seats
changed_at m n change = option_map_or (λ s. finite.insert m n (change s)) (finite.get m n) m

-- the least free number, or none where no number is free
abbrev pub IsLeastFree : Seats → Option ℕ → Type 0
IsLeastFree m None = (q : ℕ) (s : Seat) → Has m q s → is_free s ≡ false
IsLeastFree m (Some n) = HasA is_free m n × ((q : ℕ) (s : Seat) → Has m q s → is_free s ≡ true → n ≤ q)

-- the first comes due before the other, or with it and has a number that isn't greater
abbrev pub IsBefore : Waiting → ℕ → ℕ → Type 0
IsBefore w due number = (w.due ≤ due) × (w.due ≡ due → w.number ≤ number)

-- the number that comes due first, of several the least, or none where no number has a due
abbrev pub IsFirstDue : Seats → Option Waiting → Type 0
IsFirstDue m None = (q : ℕ) (s : Seat) → Has m q s → s.due ≡ None
IsFirstDue m (Some w) = ((s : Seat) × Has m w.number s × (s.due ≡ Some w.due)) × ((q : ℕ) (s : Seat) (due : ℕ) → Has m q s → s.due ≡ Some due → IsBefore w due q)

-- the count of a number, where it is above 0
abbrev pub count_in : ℕ × Seat → Option Count
count_in e = if nat_lt 0 e.1.count then Some (record { number = e.0; count = e.1.count }) else None

-- the counts above 0, by rising numbers
abbrev pub counts_of : Seats → List Count
counts_of m = filter_map count_in (finite.entries m)

-- what an index keeps: how many numbers there are, fewer than 2^32, and room for the count of each
pub record IsReady (m : Seats) (len capacity listed : ℕ) : Type 0 where
  pub counted : len ≡ finite.len m
  pub short : len < 2 ^ 32
  pub room : len ≤ capacity
  pub clear : listed ≡ 0
