-- The Gregorian calendar from 1970-01-01, day by day (RFC 3339, 5.7 and appendix C).
use Rattle.std.specs.Prelude.{ℕ, zero, suc, ◌+◌, ◌%◌, Bool, not, ◌&&◌, ◌||◌, ◌==◌, nat_lt, if◌then◌else◌}
use Rattle.pim_time.specs.declared.calendar.Date.{Date}

-- Whether a year is a leap year: every fourth, but of the centuries only every fourth.
abbrev pub is_leap : ℕ → Bool
is_leap year = (year % 4 == 0) && (not (year % 100 == 0) || (year % 400 == 0))

-- The number of days of a month, from 1 for January.
abbrev pub days_in_month : ℕ → ℕ → ℕ
days_in_month year month =
    if month == 2 then (if is_leap year then 29 else 28)
    else (if (month == 4) || (month == 6) || (month == 9) || (month == 11) then 30 else 31)

-- The first day of the month after that of a date.
unfoldable pub next_month : Date → Date
next_month date =
    if nat_lt date.month 12 then record { year = date.year; month = date.month + 1; day = 1 }
    else record { year = date.year + 1; month = 1; day = 1 }

-- The day after a date.
unfoldable pub next_day : Date → Date
next_day date =
    if nat_lt date.day (days_in_month date.year date.month)
    then record { year = date.year; month = date.month; day = date.day + 1 } else next_month date

-- The date this many days after 1970-01-01.
unfoldable pub date_of : ℕ → Date
date_of zero = record { year = 1970; month = 1; day = 1 }
date_of (suc days) = next_day (date_of days)
