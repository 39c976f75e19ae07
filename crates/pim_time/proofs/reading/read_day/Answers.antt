use Rattle.pim_time.proofs.Words.{◌∷◌, ◌++◌, arith, date_of, two_digits}
use Rattle.pim_time.proofs.Days.{is_civil}
use Rattle.pim_time.proofs.Walks.{month_high}
use Rattle.pim_time.proofs.reading.read_day.Goals as goal

pub returns-in_err-month-clause-only : goal.returns-in_err-month-clause-only
returns-in_err-month-clause-only c n behind is =
    let d = date_of n in
    let civil = is_civil n in
    let last = civil.last_month in
    let after_month = 45 ∷ (two_digits d.day ++ behind) in
    let year = c.in_ok-year.ensures.only d.year (45 ∷ (two_digits d.month ++ after_month)) is in
    absurd (c.in_err-month.ensures.only d.month after_month (omega arith, year.1))

pub returns-in_err-day-clause-only : goal.returns-in_err-day-clause-only
returns-in_err-day-clause-only c n behind is =
    let d = date_of n in
    let civil = is_civil n in
    let last = civil.last_month in
    let last_day = civil.last_day in
    let after_month = 45 ∷ (two_digits d.day ++ behind) in
    let year = c.in_ok-year.ensures.only d.year (45 ∷ (two_digits d.month ++ after_month)) is in
    let month = c.in_ok-month.ensures.only d.month after_month (omega arith, year.1) in
    absurd (c.in_err-day.ensures.only d.day behind (omega (arith, last_day, month_high d.year d.month), month.1))
