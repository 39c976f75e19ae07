use Rattle.pim_time.proofs.Words.{◌-◌, ◌*◌, ◌≡◌, ◌≤◌, date_of, first_day}
use Rattle.pim_time.proofs.calendar.days_before_year.Given as goal

abbrev pub invariant-loop-passed : goal.invariant-loop-passed
invariant-loop-passed l = (date_of l.days ≡ first_day l.passed 1) × (l.days ≤ 366 * (l.passed - 1970))
