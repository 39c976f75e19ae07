use Rattle.pim_time.proofs.Words.{◌∙◌, sym, subst, refl, [], ◌∷◌, IsUnit}
use Rattle.pim_time.proofs.Points.{not_some}
use Rattle.pim_time.proofs.Zones.{same_cut, byte_at}
use Rattle.pim_time.proofs.reading.read_span.Goals as goal

pub returns-in_err-unit-clause-only : goal.returns-in_err-unit-clause-only
returns-in_err-unit-clause-only c millis is =
    let cut = same_cut c.in_ok-last.front.now is.front (c.in_ok-last.last.now ∷ []) (is.byte ∷ []) refl (sym c.in_ok-last.ensures.cases.0 ∙ is.spelled) in
    let byte = byte_at 0 _ _ cut.1 in
    absurd (not_some is.unit (c.in_err-unit.ensures.only is.unit (subst (λ b. IsUnit b is.unit) (sym byte) is.named)))
