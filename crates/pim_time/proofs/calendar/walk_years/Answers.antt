use Rattle.pim_time.proofs.Words.{◌≡◌, ◌-◌, refl, arith, date_of}
use Rattle.pim_time.proofs.Walks.{at_same, over_year}
use Rattle.pim_time.proofs.calendar.walk_years.Goals as goal

pub loop-left-init : goal.loop-left-init
unfolding date_of
loop-left-init c =
    let none : 0 ≡ c.args.days - c.args.days = omega arith in
    (at_same 0 _ _ refl none, omega arith, omega arith)

pub loop-left-preserved : goal.loop-left-preserved
loop-left-preserved c =
    (at_same _ _ _ (over_year _ c.loop-left.year c.loop-left.invariant.0) (omega arith), omega arith, omega arith)
