-- The text of a moment: its civil day and time, on jiff's calendar.
use Rattle.std.specs.Prelude.{ℕ, zero, suc, ◌+◌, ◌-◌, ◌*◌, ◌/◌, ◌%◌, List, [], ◌∷◌, ◌++◌, length, zip, slice_index, Bool, ◌&&◌, ◌==◌, nat_lt, nat_le, if◌then◌else◌, Option, Some, None, option_map, pos, codes}
use Rattle.std.specs.Char.{is_ascii_digit}
use Rattle.std.specs.List.{list_all}
use Rattle.jiff_core.specs.Calendar.{days_in_year, days_in_month, day_count}

-- The year in which the day n after the first of January of the year y lies, and how many of its days come before. The years are at most k.
unfoldable pub year_after : ℕ → ℕ → ℕ → ℕ × ℕ
year_after zero y n = (y, n)
year_after (suc k) y n = if nat_lt n (days_in_year (pos y)) then (y, n) else year_after k (y + 1) (n - days_in_year (pos y))

-- the same of the months of a year
unfoldable pub month_after : ℕ → ℕ → ℕ → ℕ → ℕ × ℕ
month_after zero y m n = (m, n)
month_after (suc k) y m n = if nat_lt n (days_in_month (pos y) m) then (m, n) else month_after k y (m + 1) (n - days_in_month (pos y) m)

-- the year, month and day of the day n after 1970-01-01
unfoldable pub year_of : ℕ → ℕ × ℕ
year_of n = year_after 8030 1970 n

unfoldable pub month_of : ℕ → ℕ × ℕ
month_of n = month_after 12 (year_of n).0 1 (year_of n).1

abbrev pub civil_of : ℕ → ℕ × ℕ × ℕ
civil_of n = ((year_of n).0, (month_of n).0, (month_of n).1 + 1)

abbrev pub two : ℕ → List ℕ
two n = (48 + n / 10) ∷ (48 + n % 10) ∷ []

abbrev pub four : ℕ → List ℕ
four n = two (n / 100) ++ two (n % 100)

abbrev pub day_text : ℕ × ℕ × ℕ → List ℕ
day_text d = four d.0 ++ 45 ∷ two d.1 ++ 45 ∷ two d.2

abbrev pub time_text : ℕ → List ℕ
time_text s = two (s / 3600) ++ 58 ∷ two (s / 60 % 60) ++ 58 ∷ two (s % 60)

unfoldable pub moment_text : ℕ → List ℕ
moment_text m = day_text (civil_of (m / 86400)) ++ 32 ∷ time_text (m % 86400) ++ codes ":000000 Z"

-- ---- back

-- a 100, the letter d, stands for a digit
abbrev pub fits : ℕ → ℕ → Bool
fits p c = if p == 100 then is_ascii_digit c else p == c

abbrev pub form : List ℕ
form = codes "dddd-dd-dd dd:dd:dd:dddddd Z"

abbrev pub has_form : List ℕ → Bool
has_form t = (length t == 28) && list_all (λ p. fits p.0 p.1) (zip form t)

-- the number of the two digits from i on
abbrev pub two_at : List ℕ → ℕ → ℕ
two_at t i = (slice_index t i - 48) * 10 + (slice_index t (i + 1) - 48)

-- the seconds up to a day's start, where the calendar has the day
abbrev pub day_start : ℕ → ℕ → ℕ → Option ℕ
day_start y m d = if nat_le 1 m && (nat_le m 12 && (nat_le 1 d && nat_le d (days_in_month (pos y) m))) then Some ((day_count (pos y) m d - 4371953) * 86400) else None

-- the seconds up to a day and time, where there is one
abbrev pub seconds_at : ℕ → ℕ → ℕ → ℕ → ℕ → ℕ → Option ℕ
seconds_at y m d h mi s = if nat_le 1970 y && (nat_le y 9999 && (nat_lt h 24 && (nat_lt mi 60 && nat_lt s 60)))
    then option_map (λ start. start + h * 3600 + mi * 60 + s) (day_start y m d) else None

-- the moment that the text shows, where it has the form and shows a day and a time from 1970 on
unfoldable pub read_moment : List ℕ → Option ℕ
read_moment t = if has_form t then seconds_at (two_at t 0 * 100 + two_at t 2) (two_at t 5) (two_at t 8) (two_at t 11) (two_at t 14) (two_at t 17) else None
