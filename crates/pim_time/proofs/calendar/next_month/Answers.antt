use Rattle.std.proofs.Common.{sym, arith}
use Rattle.pim_time.proofs.Walks.{next_in_year, next_at_end}
use Rattle.pim_time.proofs.calendar.next_month.Goals as goal

pub returns-then-date-lt12 : goal.returns-then-date-lt12
returns-then-date-lt12 c = sym (next_in_year c.args.date.year c.args.date.month c.args.date.day (omega arith))

pub returns-else-date-lt12 : goal.returns-else-date-lt12
returns-else-date-lt12 c = sym (next_at_end c.args.date.year c.args.date.month c.args.date.day (omega arith))
