use Rattle.pim_time.proofs.Words.{◌≡◌, ◌∙◌, sym, ap, subst, ℕ, ◌+◌, ◌-◌, Some, arith, false≢true, date_of, first_day}
use Rattle.pim_time.proofs.Words.{IsCivil, Date}
use Rattle.pim_time.proofs.Walks.{day_of, within_month}
use Rattle.pim_time.proofs.Days.{is_civil, one_day}
use Rattle.pim_time.proofs.calendar.days_of.Goals as goal

-- The days to the first day of the month, and those of the month before the date.
at_date : (date : Date) (days : ℕ) → IsCivil date → date_of days ≡ first_day date.year date.month → date_of (days + (date.day - 1)) ≡ date
at_date date days civil is =
    let first = civil.day in
    let last = civil.last_day in
    let day : 1 + (date.day - 1) ≡ date.day = omega arith in
    within_month days date.year date.month (date.day - 1) is (omega arith) ∙ ap (day_of date.year date.month) day

pub returns-then-is_day-clause-read : goal.returns-then-is_day-clause-read
returns-then-is_day-clause-read c =
    at_date c.args.date c.days_before_month.result (c.is_day.ensures.0 c.if-is_day.true) c.days_before_month.ensures.days

pub returns-then-is_day-clause-only : goal.returns-then-is_day-clause-only
returns-then-is_day-clause-only c days is =
    let found = at_date c.args.date c.days_before_month.result (c.is_day.ensures.0 c.if-is_day.true) c.days_before_month.ensures.days in
    ap (λ (n : ℕ). Some n) (one_day _ days (found ∙ sym is))

pub returns-else-is_day-clause-only : goal.returns-else-is_day-clause-only
returns-else-is_day-clause-only c days is =
    absurd (false≢true (sym c.if-is_day.false ∙ c.is_day.ensures.1 (subst IsCivil is (is_civil days))))
