use Rattle.pim_time.proofs.Words.{◌+◌, ◌-◌, ◌≡◌, ◌≤◌, date_of, first_day}
use Rattle.pim_time.proofs.calendar.walk_years.Given as goal

abbrev pub invariant-loop-left : goal.invariant-loop-left
invariant-loop-left l = (date_of (l.days - l.left) ≡ first_day l.year 1) × (l.left ≤ l.days) × (l.year + l.left ≤ 1970 + l.days)

abbrev pub decreases-loop-left : goal.decreases-loop-left
decreases-loop-left l = l.left
