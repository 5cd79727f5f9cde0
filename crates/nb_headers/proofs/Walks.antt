-- The walk over years and months comes to jiff's date.
use Rattle.std.specs.Prelude.{◌≡◌, ◌<◌, ◌≤◌, ◌^◌, ◌⊎◌, ℕ, zero, suc, ◌+◌, ◌-◌, true, false, cond, nat_lt, ℤ, pos, negsuc, int_div, ◌*◌, ◌/◌, ◌*ℤ◌, ◌-ℤ◌, ◌≤ℤ◌, refl}
use Rattle.std.proofs.Common.{◌∙◌, sym, ap, ap₂, arith, ltb-true, ltb-false, inl, inr}
use Rattle.jiff_core.specs.Calendar.{IsCivilDate, IsYear, days_in_year, days_in_month, day_count, day_of_year, days_of_months, days_from_civil}
use Rattle.jiff_core.specs.declared.civil.date.Date.{Date}
use Rattle.jiff_core.specs.Date.{epoch_day, IsYmd}
use Rattle.jiff_core.proofs.DateLemmas.{civil}
use Rattle.jiff_core.proofs.CalendarLemmas.{days_in_month_bounds, day_count_bounds, day_count-day_of_year, day_of_year_bound, day_count-later_year, day_count-next_year, days_of_months_more, days_of_months_mono, days_of_months-zero, day_count-lt_year, day_count-epoch, days_from_civil-day_count}
use Rattle.jiff.proofs.SpanFacts.{signed_arith}
use Rattle.std.proofs.Common.{w8, w16, w64, to_z, of_z, FitsSigned}
use Rattle.std.specs.Prelude.{unsigned_abs}
use Rattle.std.proofs.lemmas.Int.{to_z-of_z}
use Rattle.nb_headers.specs.Moments.{year_after, month_after, year_of, month_of, civil_of}

order : (a b : ℕ) → a ≤ b → (a < b) ⊎ (a ≡ b)
order a b le =
    (elim (nat_lt a b) as (λ t. nat_lt a b ≡ t → (a < b) ⊎ (a ≡ b)) [
      | true ↦ λ e. inl (ltb-true a b e)
      | false ↦ λ e. let past : b ≤ a = ltb-false a b e in inr (omega arith)
    ]) refl

later : (y Y : ℕ) → y < Y → day_count (pos y) 1 1 + days_in_year (pos y) ≤ day_count (pos Y) 1 1
later y Y lt = day_count-later_year (pos y) (pos Y) (omega (arith, signed_arith)) (omega (arith, signed_arith))

next : (y : ℕ) → day_count (pos (y + 1)) 1 1 ≡ day_count (pos y) 1 1 + days_in_year (pos y)
next y = day_count-next_year (pos y) (pos (y + 1)) (omega (arith, signed_arith)) (omega (arith, signed_arith))

same_year : (y Y : ℕ) → y ≡ Y → day_count (pos y) 1 1 ≡ day_count (pos Y) 1 1
same_year y Y e = ap (λ x. day_count (pos x) 1 1) e

pub year_walk : (k y n Y m d : ℕ) → IsCivilDate (pos Y) m d → y ≤ Y → Y < y + k → n + day_count (pos y) 1 1 ≡ day_count (pos Y) m d
    → year_after k y n ≡ (Y, day_of_year (pos Y) m d - 1)
unfolding year_after
year_walk zero y n Y m d civil from to is = absurd (omega arith)
year_walk (suc k) y n Y m d civil from to is =
    let one : 1 ≤ d = civil.2.0 in
    let first = day_count-day_of_year (pos Y) m d one in
    let bound = day_of_year_bound (pos Y) m d civil in
    let some : 1 ≤ day_of_year (pos Y) m d = omega arith in
    (elim (nat_lt n (days_in_year (pos y))) as (λ t. nat_lt n (days_in_year (pos y)) ≡ t → cond t (y, n) (year_after k (y + 1) (n - days_in_year (pos y))) ≡ (Y, day_of_year (pos Y) m d - 1)) [
      | true ↦ λ e.
          let within = ltb-true _ _ e in
          elim (order y Y from) [
            | inl lt ↦ let l = later y Y lt in absurd (omega arith)
            | inr same ↦ let s = same_year y Y same in let left : n ≡ day_of_year (pos Y) m d - 1 = omega arith in ap₂ (λ a b. (a, b)) same left
          ]
      | false ↦ λ e.
          let past = ltb-false _ _ e in
          elim (order y Y from) [
            | inl lt ↦ let x = next y in year_walk k (y + 1) (n - days_in_year (pos y)) Y m d civil (omega arith) (omega arith) (omega arith)
            | inr same ↦ let s = same_year y Y same in let days : days_in_year (pos y) ≡ days_in_year (pos Y) = ap (λ x. days_in_year (pos x)) same in absurd (omega arith)
          ]
    ]) refl

same_month : (Y : ℤ) (a b : ℕ) → a ≡ b → days_of_months Y (a - 1) ≡ days_of_months Y (b - 1)
same_month Y a b e = ap (λ x. days_of_months Y (x - 1)) e

pub month_walk : (k m n Y M d : ℕ) → 1 ≤ m → m ≤ M → M < m + k → 1 ≤ d → d ≤ days_in_month (pos Y) M → n + days_of_months (pos Y) (m - 1) ≡ days_of_months (pos Y) (M - 1) + (d - 1)
    → month_after k Y m n ≡ (M, d - 1)
unfolding month_after
month_walk zero m n Y M d start from to one top is = absurd (omega arith)
month_walk (suc k) m n Y M d start from to one top is =
    let more = days_of_months_more (pos Y) m start in
    (elim (nat_lt n (days_in_month (pos Y) m)) as (λ t. nat_lt n (days_in_month (pos Y) m) ≡ t → cond t (m, n) (month_after k Y (m + 1) (n - days_in_month (pos Y) m)) ≡ (M, d - 1)) [
      | true ↦ λ e.
          let within = ltb-true _ _ e in
          elim (order m M from) [
            | inl lt ↦ let l = days_of_months_mono (pos Y) m (M - 1) (omega arith) in absurd (omega arith)
            | inr same ↦ let s = same_month (pos Y) m M same in let left : n ≡ d - 1 = omega arith in ap₂ (λ a b. (a, b)) same left
          ]
      | false ↦ λ e.
          let past = ltb-false _ _ e in
          elim (order m M from) [
            | inl lt ↦
                let at : days_of_months (pos Y) (m + 1 - 1) ≡ days_of_months (pos Y) m = ap (days_of_months (pos Y)) (let x : m + 1 - 1 ≡ m = omega arith in x) in
                month_walk k (m + 1) (n - days_in_month (pos Y) m) Y M d (omega arith) (omega arith) (omega arith) one top (omega arith)
            | inr same ↦ let s = same_month (pos Y) m M same in let days : days_in_month (pos Y) m ≡ days_in_month (pos Y) M = ap (days_in_month (pos Y)) same in absurd (omega arith)
          ]
    ]) refl

-- the walk comes to the civil date with that day number
pub civil_walk : (n Y m d : ℕ) → IsCivilDate (pos Y) m d → 1970 ≤ Y → n + 4371953 ≡ day_count (pos Y) m d → civil_of n ≡ (Y, m, d)
unfolding year_of month_of
civil_walk n Y m d civil from is =
    let epoch : day_count (pos 1970) 1 1 ≡ 4371953 = day_count-epoch in
    let one : 1 ≤ d = civil.2.0 in
    let last : Y < 1970 + 8030 = omega (arith, signed_arith, civil.0.1) in
    let year : year_of n ≡ (Y, day_of_year (pos Y) m d - 1) = year_walk 8030 1970 n Y m d civil from last (omega arith) in
    let zero_months = days_of_months-zero (pos Y) in
    let month : month_after 12 Y 1 (day_of_year (pos Y) m d - 1) ≡ (m, d - 1) =
    month_walk 12 1 (day_of_year (pos Y) m d - 1) Y m d (omega arith) civil.1.0 (omega (arith, civil.1.1)) one civil.2.1 (omega arith) in
    let month_is : month_of n ≡ (m, d - 1) = ap (λ (p : ℕ × ℕ). month_after 12 p.0 1 p.1) year ∙ month in
    let day : d - 1 + 1 ≡ d = omega arith in
    ap₂ (λ (p q : ℕ × ℕ). (p.0, q.0, q.1 + 1)) year month_is ∙ ap (λ x. (Y, m, x)) day

first_day : days_from_civil (pos 1970) 1 1 ≡ pos 0
unfolding days_from_civil
first_day = rw day_count-epoch refl

pub epoch_start : (d : Date) → IsYmd (pos 1970) (pos 1) (pos 1) d → epoch_day d ≡ pos 0
epoch_start d is =
    let month : d.month ≡ 1 = cc in
    let day : d.day ≡ 1 = cc in
    rw (is.0, month, day) first_day

-- the date that lies n days after the first one is what the walk comes to
pub civil_of-date : (d : Date) (n : ℕ) → epoch_day d ≡ pos n → (pos (civil_of n).0 ≡ d.year) × ((civil_of n).1 ≡ d.month) × ((civil_of n).2 ≡ d.day)
civil_of-date d n is = from_year d.year refl
  where
    count : n + 4371953 ≡ day_count d.year d.month d.day
    count = let parts = rw is at (days_from_civil-day_count d.year d.month d.day) in omega arith

    from_year : (y : ℤ) → d.year ≡ y → (pos (civil_of n).0 ≡ d.year) × ((civil_of n).1 ≡ d.month) × ((civil_of n).2 ≡ d.day)
    from_year (pos Y) e =
        let c : IsCivilDate (pos Y) d.month d.day = rw e at (civil d) in
        let at : n + 4371953 ≡ day_count (pos Y) d.month d.day = rw e at count in
        let late : 1970 ≤ Y =
        (elim (nat_lt Y 1970) as (λ t. nat_lt Y 1970 ≡ t → 1970 ≤ Y) [
          | true ↦ λ t.
              let lt : Y < 1970 = ltb-true Y 1970 t in
              let before = day_count-lt_year (pos Y) d.month d.day (pos 1970) 1 1 c (omega arith) (omega (arith, signed_arith)) in
              let epoch = day_count-epoch in
              absurd (omega arith)
          | false ↦ λ t. ltb-false Y 1970 t
        ]) refl in
        let walk = civil_walk n Y d.month d.day c late at in
        (ap (λ (p : ℕ × ℕ × ℕ). pos p.0) walk ∙ sym e, ap (λ (p : ℕ × ℕ × ℕ). p.1) walk, ap (λ (p : ℕ × ℕ × ℕ). p.2) walk)
    from_year (negsuc k) e =
        let c : IsCivilDate (negsuc k) d.month d.day = rw e at (civil d) in
        let at : n + 4371953 ≡ day_count (negsuc k) d.month d.day = rw e at count in
        let before = day_count-lt_year (negsuc k) d.month d.day (pos 1970) 1 1 c (omega arith) (omega (arith, signed_arith)) in
        let epoch = day_count-epoch in
        absurd (omega arith)

-- a small number, taken through a signed type and back
pub abs_16 : (Y : ℕ) (z : ℤ) (r : ℕ) → z ≡ pos Y → Y < 2 ^ 15 → r ≡ unsigned_abs (to_z w16 (of_z w16 z)) → r ≡ Y
abs_16 Y z r is small got =
    let fits : FitsSigned w16 (pos Y) = omega (arith, signed_arith) in
    got ∙ rw (is, to_z-of_z w16 (pos Y) fits) refl

pub abs_8 : (Y : ℕ) (z : ℤ) (r : ℕ) → z ≡ pos Y → Y < 2 ^ 7 → r ≡ unsigned_abs (to_z w8 (of_z w8 z)) → r ≡ Y
abs_8 Y z r is small got =
    let fits : FitsSigned w8 (pos Y) = omega (arith, signed_arith) in
    got ∙ rw (is, to_z-of_z w8 (pos Y) fits) refl

-- the parts of a date are small
pub civil_small : (d : Date) (p : ℕ × ℕ × ℕ) → pos p.0 ≡ d.year → p.1 ≡ d.month → p.2 ≡ d.day → (p.0 < 10000) × (p.1 < 13) × (p.2 < 32)
civil_small d p year month day =
    let c = civil d in
    let top = days_in_month_bounds d.year d.month in
    (omega (arith, signed_arith, c.0.1), omega (arith, c.1.1), omega (arith, c.2.1, top.0))

-- ---- back

late_day : (day : Date) → pos 1970 ≤ℤ day.year → (epoch_day day ≡ pos (day_count day.year day.month day.day - 4371953)) × (day_count day.year day.month day.day - 4371953 ≤ 2932896)
late_day day late =
    let epoch = day_count-epoch in
    let c = civil day in
    let bounds = day_count_bounds day.year day.month day.day c in
    let parts = days_from_civil-day_count day.year day.month day.day in
    let first = day_count-day_of_year day.year day.month day.day c.2.0 in
    let some : 1 ≤ day_of_year day.year day.month day.day = omega (arith, c.2.0) in
    let from : 4371953 ≤ day_count day.year 1 1 = from_1970 day.year late c.0 in
    (omega (arith, signed_arith, parts), omega arith)
  where
    from_1970 : (y : ℤ) → pos 1970 ≤ℤ y → IsYear y → 4371953 ≤ day_count y 1 1
    from_1970 (pos Y) le year =
        let epoch = day_count-epoch in
        elim (order 1970 Y (omega (arith, signed_arith))) [
          | inl lt ↦ let l = later 1970 Y lt in omega arith
          | inr same ↦ let s = same_year 1970 Y same in omega arith
        ]
    from_1970 (negsuc k) le year = absurd (omega (arith, signed_arith))

whole_seconds : (n : ℕ) → n * 86400000000000 / 1000000000 ≡ n * 86400
whole_seconds n = omega arith

pub start_seconds : (first day : Date) (nanos z : ℤ) → IsYmd (pos 1970) (pos 1) (pos 1) first → pos 1970 ≤ℤ day.year
    → nanos ≡ (epoch_day day -ℤ epoch_day first) *ℤ pos 86400000000000 → z ≡ int_div nanos (pos 1000000000)
    → (z ≡ pos ((day_count day.year day.month day.day - 4371953) * 86400)) × (day_count day.year day.month day.day - 4371953 ≤ 2932896)
start_seconds first day nanos z is late nanos_are z_is =
    let n = day_count day.year day.month day.day - 4371953 in
    let d = late_day day late in
    let days : epoch_day day -ℤ epoch_day first ≡ pos n = rw (d.0, epoch_start first is) (omega (arith, signed_arith)) in
    let all : nanos ≡ pos (n * 86400000000000) = nanos_are ∙ ap (λ x. x *ℤ pos 86400000000000) days in
    (z_is ∙ ap (λ x. int_div x (pos 1000000000)) all ∙ ap pos (whole_seconds n), d.1)

pub abs_64 : (Y : ℕ) (z : ℤ) (r : ℕ) → z ≡ pos Y → Y < 2 ^ 63 → r ≡ unsigned_abs (to_z w64 (of_z w64 z)) → r ≡ Y
abs_64 Y z r is small got =
    let fits : FitsSigned w64 (pos Y) = omega (arith, signed_arith) in
    got ∙ rw (is, to_z-of_z w64 (pos Y) fits) refl
