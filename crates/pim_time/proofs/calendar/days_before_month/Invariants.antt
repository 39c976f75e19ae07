use Rattle.pim_time.proofs.Words.{◌+◌, ◌-◌, ◌*◌, ◌≡◌, ◌≤◌, date_of, first_day}
use Rattle.pim_time.proofs.calendar.days_before_month.Given as goal

abbrev pub invariant-loop-passed : goal.invariant-loop-passed
invariant-loop-passed l =
    (date_of l.days ≡ first_day l.year l.passed) × (l.days ≤ 366 * (l.year - 1970) + 31 * (l.passed - 1))
