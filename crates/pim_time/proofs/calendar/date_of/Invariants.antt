use Rattle.pim_time.proofs.Words.{◌+◌, ◌-◌, ◌≡◌, ◌≤◌, date_of, first_day}
use Rattle.pim_time.proofs.calendar.date_of.Given as goal

abbrev pub invariant-loop-left : goal.invariant-loop-left
invariant-loop-left l =
    (date_of (l.days - l.left) ≡ first_day l.date.year l.date.month) × (l.left ≤ l.days) × (l.date.month ≤ 12)
    × (l.date.year + l.left ≤ 1970 + l.days)

abbrev pub decreases-loop-left : goal.decreases-loop-left
decreases-loop-left l = l.left
