use Rattle.pim_time.proofs.Words.{sym, ap, ◌-◌, ◌<◌, arith, days_in_month, Date}
use Rattle.pim_time.proofs.Walks.{at_same, within_month, over_any_month}
use Rattle.pim_time.proofs.Days.{year_below}
use Rattle.pim_time.proofs.calendar.date_of.Goals as goal

pub loop-left-preserved : goal.loop-left-preserved
loop-left-preserved c =
    let d = c.loop-left.date in
    let step = over_any_month (c.args.days - c.loop-left.left) d.year d.month d.day c.next_month-date.result c.loop-left.invariant.0 c.loop-left.invariant.2 c.next_month-date.ensures in
    let up = step.year_up in
    (at_same _ _ _ step.is (omega arith), omega arith, step.month, omega arith)

pub returns-clause-date : goal.returns-clause-date
returns-clause-date c =
    let d = c.loop-left.date in
    let within : c.loop-left.left < days_in_month d.year d.month = omega arith in
    sym (at_same _ _ _ (within_month _ d.year d.month c.loop-left.left c.loop-left.invariant.0 within) (omega arith))

pub returns-clause-year : goal.returns-clause-year
returns-clause-year c =
    let d = c.loop-left.date in
    let within : c.loop-left.left < days_in_month d.year d.month = omega arith in
    let is = at_same _ c.args.days _ (within_month _ d.year d.month c.loop-left.left c.loop-left.invariant.0 within) (omega arith) in
    let year = ap (λ (date : Date). date.year) is in
    omega (arith, year, year_below c.args.days (omega arith))
