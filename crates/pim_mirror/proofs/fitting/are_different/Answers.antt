use Rattle.pim_mirror.proofs.Words.{◌∙◌, sym, OtherNeighbour}
use Rattle.pim_mirror.proofs.Listed.{met_again, not_met}
use Rattle.pim_mirror.proofs.fitting.are_different.Goals as goal

pub returns-then-has_address : goal.returns-then-has_address
returns-then-has_address g c =
    sym (met_again (λ (other : OtherNeighbour _). g.F.Family.bytes_of other.address) c.loop-other.left.now c.in-Some.behind.now c.in-Some.other.now
    c.in-Some.ensures.cases.0 (sym c.has_address.ensures ∙ c.if-has_address.true)) ∙ c.loop-other.invariant

pub loop-other-preserved : goal.loop-other-preserved
loop-other-preserved g c =
    not_met (λ (other : OtherNeighbour _). g.F.Family.bytes_of other.address) c.loop-other.left.now c.in-Some.behind.now c.in-Some.other.now
    c.in-Some.ensures.cases.0 (sym c.has_address.ensures ∙ c.if-has_address.false) ∙ c.loop-other.invariant
