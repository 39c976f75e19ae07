-- What the clauses of private functions say of dates.
use Rattle.std.specs.Prelude.{ℕ, ◌≤◌}
use Rattle.pim_time.specs.Calendar.{days_in_month}
use Rattle.pim_time.specs.declared.calendar.Date.{Date}

-- The first day of a month.
abbrev pub first_day : ℕ → ℕ → Date
first_day year month = record { year = year; month = month; day = 1 }

-- The calendar has this day, in 1970 or later.
pub record IsCivil (date : Date) : Type 0 where
  pub year : 1970 ≤ date.year
  pub month : 1 ≤ date.month
  pub last_month : date.month ≤ 12
  pub day : 1 ≤ date.day
  pub last_day : date.day ≤ days_in_month date.year date.month
