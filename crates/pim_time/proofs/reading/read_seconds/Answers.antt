use Rattle.pim_time.proofs.Words.{◌∙◌, sym, subst, IsPart}
use Rattle.pim_time.proofs.Forms.{spelled_by_point}
use Rattle.pim_time.proofs.Points.{not_some}
use Rattle.pim_time.proofs.reading.read_seconds.Goals as goal

pub returns-in_err-part-clause-only : goal.returns-in_err-part-clause-only
returns-in_err-part-clause-only c millis is =
    let parts = c.in_ok-parts.ensures.only is.front is.fraction.tail is.digits.digits.1 (spelled_by_point _ millis is) in
    absurd (not_some is.part (c.in_err-part.ensures.only is.part (subst (λ b. IsPart b is.part) (is.fraction.spelled ∙ sym parts.1) is.fraction)))
