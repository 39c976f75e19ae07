use Rattle.pim_answers.proofs.Words.{◌≡◌, ◌++◌, map, stars_of, star_seen}
use Rattle.pim_answers.proofs.kept.stars_of.Given as goal

-- the stars so far, and those of the groups that are left, are all
abbrev pub invariant-loop-this : goal.invariant-loop-this
invariant-loop-this g l =
    map (star_seen g.F.Family.bytes_of) l.stars.items ++ stars_of g.F.Family.family l.routes l.this-iterator ≡ stars_of g.F.Family.family l.routes l.form
