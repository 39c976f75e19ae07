use Rattle.pim_mirror.proofs.Words.{◌≡◌, map, length, are_different, OtherNeighbour}
use Rattle.pim_mirror.proofs.fitting.are_different.Given as goal

-- all are different exactly if those that are left are
abbrev pub invariant-loop-other : goal.invariant-loop-other
invariant-loop-other g l =
    are_different (map (λ (other : OtherNeighbour _). g.F.Family.bytes_of other.address) l.left)
    ≡ are_different (map (λ (other : OtherNeighbour _). g.F.Family.bytes_of other.address) l.others)

abbrev pub decreases-loop-other : goal.decreases-loop-other
decreases-loop-other g l = length l.left
