use Rattle.pim_answers.proofs.Words.{◌≡◌, map, drop, have_their_rps, star_seen}
use Rattle.pim_answers.proofs.kept.have_their_rps.Given as goal

-- all are exactly if all that are left are
abbrev pub invariant-loop-star : goal.invariant-loop-star
invariant-loop-star g l =
    have_their_rps g.F.Family.family l.routes (map (star_seen g.F.Family.bytes_of) (drop l.star-index l.stars))
    ≡ have_their_rps g.F.Family.family l.routes (map (star_seen g.F.Family.bytes_of) l.stars)
