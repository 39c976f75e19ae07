-- Each day of the walk is one of the calendar, and another than all others.
use Rattle.pim_time.proofs.Words.{◌≡◌, ◌∙◌, ap, subst, refl, ℕ, zero, suc, ◌+◌, ◌-◌, ◌*◌, ◌<◌, inl, inr, nat_lt, arith}
use Rattle.pim_time.proofs.Words.{cond_both, ltb-true, ltb-false, cases_order, days_in_month, next_month, next_day}
use Rattle.pim_time.proofs.Words.{date_of, first_day, IsCivil, Date}
use Rattle.pim_time.proofs.Walks.{month_low, month_high, over_year}

-- ---- days of the calendar

-- A number that grows from each date to the next one.
abbrev key : Date → ℕ
key date = date.year * 372 + date.month * 31 + date.day

-- The date is of the calendar, and its key is above a number.
abbrev Later : ℕ → Date → Type 0
Later number date = IsCivil date × (number < key date)

month_later : (date : Date) → IsCivil date → Later (key date) (next_month date)
unfolding next_month
month_later date civil =
    let high = month_high date.year date.month in
    let last = civil.last_day in
    let first = civil.month in
    let from = civil.year in
    cond_both (nat_lt date.month 12) _ _ (Later (key date))
    (λ is. let below = ltb-true date.month 12 is in let low = month_low date.year (date.month + 1) in
    (record { year = from; month = omega arith; last_month = omega arith; day = omega arith; last_day = omega arith }, omega arith))
    (λ is. let above = ltb-false date.month 12 is in let low = month_low (date.year + 1) 1 in
    (record { year = omega arith; month = omega arith; last_month = omega arith; day = omega arith; last_day = omega arith }, omega arith))

day_later : (date : Date) → IsCivil date → Later (key date) (next_day date)
unfolding next_day
day_later date civil =
    cond_both (nat_lt date.day (days_in_month date.year date.month)) _ _ (Later (key date))
    (λ is. let below = ltb-true date.day _ is in
    (record { year = civil.year; month = civil.month; last_month = civil.last_month; day = omega arith; last_day = omega arith }, omega arith))
    (λ is. month_later date civil)

pub is_civil : (n : ℕ) → IsCivil (date_of n)
unfolding date_of
is_civil zero = record { year = omega arith; month = omega arith; last_month = omega arith; day = omega arith; last_day = omega arith }
is_civil (suc n) = (day_later (date_of n) (is_civil n)).0

one_later : (n : ℕ) → key (date_of n) < key (date_of (suc n))
unfolding date_of
one_later n = (day_later (date_of n) (is_civil n)).1

later : (n k : ℕ) → key (date_of n) < key (date_of (n + suc k))
later n zero =
    let there : n + 1 ≡ suc n = omega arith in
    rw there (one_later n)
later n (suc k) =
    let before = later n k in
    let step = one_later (n + suc k) in
    let there : n + suc (suc k) ≡ suc (n + suc k) = omega arith in
    rw there (omega arith)

pub later_key : (m n : ℕ) → m < n → key (date_of m) < key (date_of n)
later_key m n above =
    let there : m + suc (n - m - 1) ≡ n = omega arith in
    subst (λ k. key (date_of m) < key (date_of k)) there (later m (n - m - 1))

-- ---- a date has one number

pub one_day : (m n : ℕ) → date_of m ≡ date_of n → m ≡ n
one_day m n same =
    let keys : key (date_of m) ≡ key (date_of n) = ap key same in
    elim (cases_order m n) [
      | inl is ↦ is
      | inr (inl below) ↦ absurd (omega (arith, later_key m n below, keys))
      | inr (inr above) ↦ absurd (omega (arith, later_key n m above, keys))
    ]

-- ---- the year 10000

days_before : ℕ → ℕ
days_before zero = 0
days_before (suc n) = days_before n + (337 + days_in_month (1970 + n) 2)

year_starts : (n : ℕ) → date_of (days_before n) ≡ first_day (1970 + n) 1
unfolding days_before date_of
year_starts zero = refl
year_starts (suc n) =
    let there : 1970 + n + 1 ≡ 1970 + suc n = omega arith in
    over_year (days_before n) (1970 + n) (year_starts n) ∙ ap (λ y. first_day y 1) there

year_10000 : date_of 2932897 ≡ first_day 10000 1
unfolding days_before
year_10000 = year_starts 8030

pub year_below : (n : ℕ) → n < 2932897 → (date_of n).year < 10000
year_below n small =
    let civil = is_civil n in
    let month = civil.month in
    let day = civil.day in
    let last : key (date_of 2932897) ≡ key (first_day 10000 1) = ap key year_10000 in
    omega (arith, later_key n 2932897 small, last)
