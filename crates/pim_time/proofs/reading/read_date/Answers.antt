use Rattle.pim_time.proofs.Words.{◌++◌, sym, ap, subst, ℕ, Some, arith, marked_text, IsEnd, IsZone}
use Rattle.pim_time.proofs.Points.{not_some, same_some}
use Rattle.pim_time.proofs.Seconds.{its_second}
use Rattle.pim_time.proofs.Zones.{zone_long}
use Rattle.pim_time.specs.Pieces.{IsSecond}
use Rattle.pim_time.proofs.reading.read_date.Goals as goal

pub returns-in_err-clock-clause-only : goal.returns-in_err-clock-clause-only
returns-in_err-clock-clause-only c millis is =
    let parts = c.in_ok-parts.ensures.only (marked_text is.mark is.clock ++ is.behind) is.zone (zone_long is.zone is.clock is.seconds is.named) is.spelled in
    absurd (c.in_err-clock.ensures.only is.clock is.behind (subst (λ t. IsSecond t is.clock is.behind) (sym parts.0) (its_second _ millis is)))

pub returns-in_err-part-clause-only : goal.returns-in_err-part-clause-only
returns-in_err-part-clause-only c millis is =
    let parts = c.in_ok-parts.ensures.only (marked_text is.mark is.clock ++ is.behind) is.zone (zone_long is.zone is.clock is.seconds is.named) is.spelled in
    let clock = c.in_ok-clock.ensures.only is.clock is.behind (subst (λ t. IsSecond t is.clock is.behind) (sym parts.0) (its_second _ millis is)) in
    absurd (not_some is.part (c.in_err-part.ensures.only is.part (subst (λ b. IsEnd b is.part) (sym clock.1) is.end)))

pub returns-in_err-seconds-clause-only : goal.returns-in_err-seconds-clause-only
returns-in_err-seconds-clause-only c millis is =
    let parts = c.in_ok-parts.ensures.only (marked_text is.mark is.clock ++ is.behind) is.zone (zone_long is.zone is.clock is.seconds is.named) is.spelled in
    let clock = c.in_ok-clock.ensures.only is.clock is.behind (subst (λ t. IsSecond t is.clock is.behind) (sym parts.0) (its_second _ millis is)) in
    let named = subst (λ n. IsZone is.zone n is.seconds) (sym clock.0) is.named in
    absurd (not_some is.seconds (c.in_err-seconds.ensures.only is.seconds (subst (λ z. IsZone z _ is.seconds) (sym parts.1) named)))

pub returns-clause-only : goal.returns-clause-only
returns-clause-only c millis is =
    let parts = c.in_ok-parts.ensures.only (marked_text is.mark is.clock ++ is.behind) is.zone (zone_long is.zone is.clock is.seconds is.named) is.spelled in
    let clock = c.in_ok-clock.ensures.only is.clock is.behind (subst (λ t. IsSecond t is.clock is.behind) (sym parts.0) (its_second _ millis is)) in
    let part = same_some _ is.part (c.in_ok-part.ensures.only is.part (subst (λ b. IsEnd b is.part) (sym clock.1) is.end)) in
    let named = subst (λ n. IsZone is.zone n is.seconds) (sym clock.0) is.named in
    let seconds = same_some _ is.seconds (c.in_ok-seconds.ensures.only is.seconds (subst (λ z. IsZone z _ is.seconds) (sym parts.1) named)) in
    ap (λ (k : ℕ). Some k) (omega (arith, part, seconds, is.value))
