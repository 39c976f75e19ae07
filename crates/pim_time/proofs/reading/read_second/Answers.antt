use Rattle.pim_time.proofs.Words.{◌∙◌, sym, ◌/◌, ◌%◌, ◌∷◌, ◌++◌, arith, clock_text}
use Rattle.pim_time.proofs.Seconds.{joined, its_day, tails}
use Rattle.pim_time.proofs.reading.read_second.Goals as goal

pub returns-in_err-day-clause-only : goal.returns-in_err-day-clause-only
returns-in_err-day-clause-only c n behind is =
    absurd (c.in_err-day.ensures.only (n / 86400) (is.mark ∷ (clock_text (n % 86400) ++ behind)) (its_day _ _ _ is))

pub returns-in_err-behind-clause-only : goal.returns-in_err-behind-clause-only
returns-in_err-behind-clause-only c n behind is =
    let day = c.in_ok-day.ensures.only (n / 86400) (is.mark ∷ (clock_text (n % 86400) ++ behind)) (its_day _ _ _ is) in
    absurd (c.in_err-behind.ensures is.mark (clock_text (n % 86400) ++ behind) is.between day.1)

pub returns-in_err-clock-clause-only : goal.returns-in_err-clock-clause-only
returns-in_err-clock-clause-only c n behind is =
    let day = c.in_ok-day.ensures.only (n / 86400) (is.mark ∷ (clock_text (n % 86400) ++ behind)) (its_day _ _ _ is) in
    let there = tails _ _ _ _ (sym c.in_ok-behind.ensures.1.1 ∙ day.1) in
    absurd (c.in_err-clock.ensures.only (n % 86400) behind (omega arith, there))

pub returns-clause-read : goal.returns-clause-read
returns-clause-read c =
    joined _ _ _ _ _ _ _ c.in_ok-behind.ensures.1.0 c.in_ok-day.ensures.read c.in_ok-behind.ensures.1.1 c.in_ok-clock.ensures.read

pub returns-clause-only : goal.returns-clause-only
returns-clause-only c n behind is =
    let day = c.in_ok-day.ensures.only (n / 86400) (is.mark ∷ (clock_text (n % 86400) ++ behind)) (its_day _ _ _ is) in
    let there = tails _ _ _ _ (sym c.in_ok-behind.ensures.1.1 ∙ day.1) in
    let clock = c.in_ok-clock.ensures.only (n % 86400) behind (omega arith, there) in
    (omega (arith, day.0, clock.0), clock.1)
