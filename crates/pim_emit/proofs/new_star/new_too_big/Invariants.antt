use Rattle.pim_emit.proofs.Words.{◌≡◌, length, option_map, AreAscending, groups_of, too_big, HaveSameStars, groups_above}
use Rattle.pim_emit.proofs.NewStars.{new_of}
use Rattle.pim_emit.proofs.new_star.new_too_big.Given as goal

-- no new star that was passed is too big, and only groups up to the bound were passed
abbrev pub invariant-loop-group : goal.invariant-loop-group
invariant-loop-group g l =
    let bound = option_map g.F.Family.bytes_of l.bound in record {
      least : too_big g.F.Family.family l.budget (new_of l.last (groups_above bound l.demand.form)) ≡ too_big g.F.Family.family l.budget (new_of l.last l.demand.form);
      stars : HaveSameStars bound l.left l.last;
      ascending : AreAscending (groups_of l.left);
    }

abbrev pub decreases-loop-group : goal.decreases-loop-group
decreases-loop-group g l = length (groups_above (option_map g.F.Family.bytes_of l.bound) l.demand.form)
