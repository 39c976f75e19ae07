use Rattle.pim_emit.proofs.Words.{length, AreAscending, groups_of}
use Rattle.pim_emit.proofs.NewStars.{HaveSameStarsFrom}
use Rattle.pim_emit.proofs.new_star.has_star_in.Given as goal

-- only groups below this one were passed
abbrev pub invariant-loop-this : goal.invariant-loop-this
invariant-loop-this g l = record {
  same : HaveSameStarsFrom (g.F.Family.bytes_of l.group) l.left l.initial.left;
  ascending : AreAscending (groups_of l.left);
}

abbrev pub decreases-loop-this : goal.decreases-loop-this
decreases-loop-this g l = length l.left
