-- Walks over the calendar by days, months and years.
use Rattle.pim_time.proofs.Words.{◌≡◌, ◌∙◌, sym, ap, subst, refl, ℕ, zero, suc, ◌+◌, ◌-◌, ◌<◌, ◌≤◌, inl, inr, Bool}
use Rattle.pim_time.proofs.Words.{true, false, cond, nat_lt, arith, lt-ltb, le-ltb, cases_lt, days_in_month, next_month}
use Rattle.pim_time.proofs.Words.{next_day, date_of, first_day, Date}

-- A date by its numbers.
abbrev pub day_of : ℕ → ℕ → ℕ → Date
day_of year month day = record { year = year; month = month; day = day }

-- ---- one step

choose : {A : Type 0} (b : Bool) (x y : A) → b ≡ true → cond b x y ≡ x
choose b x y is = ap (λ t. cond t x y) is

refuse : {A : Type 0} (b : Bool) (x y : A) → b ≡ false → cond b x y ≡ y
refuse b x y is = ap (λ t. cond t x y) is

pub next_in_year : (year month day : ℕ) → month < 12 → next_month (day_of year month day) ≡ first_day year (month + 1)
unfolding next_month
next_in_year year month day small = choose (nat_lt month 12) _ _ (lt-ltb month 12 small)

pub next_at_end : (year month day : ℕ) → 12 ≤ month → next_month (day_of year month day) ≡ first_day (year + 1) 1
unfolding next_month
next_at_end year month day large = refuse (nat_lt month 12) _ _ (le-ltb month 12 large)

day_inside : (year month day : ℕ) → day < days_in_month year month → next_day (day_of year month day) ≡ day_of year month (day + 1)
unfolding next_day
day_inside year month day small = choose (nat_lt day (days_in_month year month)) _ _ (lt-ltb _ _ small)

day_at_end : (year month day : ℕ) → days_in_month year month ≤ day → next_day (day_of year month day) ≡ next_month (day_of year month day)
unfolding next_day
day_at_end year month day large = refuse (nat_lt day (days_in_month year month)) _ _ (le-ltb _ _ large)

one_more : (n : ℕ) (date : Date) → date_of n ≡ date → date_of (suc n) ≡ next_day date
unfolding date_of
one_more n date is = ap next_day is

-- ---- walks

-- The days of a month, from its first one.
pub within_month : (n year month k : ℕ) → date_of n ≡ first_day year month → k < days_in_month year month → date_of (n + k) ≡ day_of year month (1 + k)
within_month n year month zero is small =
    let here : n + 0 ≡ n = omega arith in
    rw here is
within_month n year month (suc k) is small =
    let before = within_month n year month k is (omega arith) in
    let there : n + suc k ≡ suc (n + k) = omega arith in
    let day : 1 + k + 1 ≡ 1 + suc k = omega arith in
    rw there (one_more _ _ before ∙ (day_inside year month (1 + k) (omega arith) ∙ ap (day_of year month) day))

month_of : (n year month k : ℕ) → date_of n ≡ first_day year month → days_in_month year month ≡ suc k → date_of (n + suc k) ≡ next_month (day_of year month (1 + k))
month_of n year month k is days =
    let last = within_month n year month k is (omega arith) in
    let there : n + suc k ≡ suc (n + k) = omega arith in
    rw there (one_more _ _ last ∙ day_at_end year month (1 + k) (omega arith))

-- A month has 28 to 31 days.
pub month_low : (year month : ℕ) → 28 ≤ days_in_month year month
month_low year month = grind arith

pub month_high : (year month : ℕ) → days_in_month year month ≤ 31
month_high year month = grind arith

-- The same day of the walk, where a number of days is written in another way.
pub at_same : (m n : ℕ) (date : Date) → date_of m ≡ date → m ≡ n → date_of n ≡ date
at_same m n date is same = subst (λ k. date_of k ≡ date) same is

-- From the first day of a month to that of the next one.
pub over_month : (n year month : ℕ) → date_of n ≡ first_day year month → month < 12 → date_of (n + days_in_month year month) ≡ first_day year (month + 1)
over_month n year month is small =
    let low = month_low year month in
    let days : days_in_month year month ≡ suc (days_in_month year month - 1) = omega arith in
    at_same _ _ _ (month_of n year month (days_in_month year month - 1) is days ∙ next_in_year year month _ small) (omega arith)

pub over_december : (n year : ℕ) → date_of n ≡ first_day year 12 → date_of (n + 31) ≡ first_day (year + 1) 1
over_december n year is = month_of n year 12 30 is refl ∙ next_at_end year 12 31 (omega arith)

-- From the first day of a year to that of the next one.
pub over_year : (n year : ℕ) → date_of n ≡ first_day year 1 → date_of (n + (337 + days_in_month year 2)) ≡ first_day (year + 1) 1
over_year n year january =
    let february = over_month n year 1 january (omega arith) in
    let march = over_month _ year 2 february (omega arith) in
    let april = over_month _ year 3 march (omega arith) in
    let may = over_month _ year 4 april (omega arith) in
    let june = over_month _ year 5 may (omega arith) in
    let july = over_month _ year 6 june (omega arith) in
    let august = over_month _ year 7 july (omega arith) in
    let september = over_month _ year 8 august (omega arith) in
    let october = over_month _ year 9 september (omega arith) in
    let november = over_month _ year 10 october (omega arith) in
    let december = over_month _ year 11 november (omega arith) in
    at_same _ _ _ (over_december _ year december) (omega arith)

-- What a month's step gives: the first day of the next one.
pub record NextMonth (n year : ℕ) (next : Date) : Type 0 where
  pub is : date_of n ≡ first_day next.year next.month
  pub month : next.month ≤ 12
  pub year_up : next.year ≤ year + 1

-- The step at any month.
pub over_any_month : (n year month day : ℕ) (next : Date) → date_of n ≡ first_day year month → month ≤ 12 → next ≡ next_month (day_of year month day) → NextMonth (n + days_in_month year month) year next
over_any_month n year month day next is small given =
    elim (cases_lt month 12) [
      | inl below ↦
          (let same : first_day year (month + 1) ≡ next = sym (given ∙ next_in_year year month day below) in
          subst (NextMonth (n + days_in_month year month) year) same
          (record { is = over_month n year month is below; month = omega arith; year_up = omega arith }))
      | inr above ↦
          (let last : month ≡ 12 = omega arith in
          let same : first_day (year + 1) 1 ≡ next = sym (given ∙ next_at_end year month day above) in
          let walk : date_of (n + days_in_month year month) ≡ first_day (year + 1) 1 =
          (let is12 : date_of n ≡ first_day year 12 = is ∙ ap (first_day year) last in
          at_same _ _ _ (over_december n year is12) (ap (λ m. n + days_in_month year m) (sym last))) in
          subst (NextMonth (n + days_in_month year month) year) same
          (record { is = walk; month = omega arith; year_up = omega arith }))
    ]
