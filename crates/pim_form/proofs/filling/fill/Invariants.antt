use Rattle.pim_form.proofs.Words.{◌+◌, List, ◌∷◌, GroupPlace}
use Rattle.pim_form.specs.Filling.{IsFilling, IsNext, star_count, place_sources}
use Rattle.pim_form.proofs.filling.fill.Given as goal

-- whatever went on with the group goes on with what is left of it
abbrev pub invariant-loop-filling : goal.invariant-loop-filling
invariant-loop-filling g l = record {
  goes : (row : List g.row.F-Addr.Denot) (places left : List (GroupPlace g.row.F-Addr.Denot)) →
      IsFilling g.F.Family.bytes_of g.F.Family.family l.budget row places (l.fn.place ∷ left) l.fn.filling →
      IsFilling g.F.Family.bytes_of g.F.Family.family l.budget row places (l.left ∷ left) l.filling;
  next : IsNext g.F.Family.bytes_of g.F.Family.family l.budget l.left l.filling;
}

abbrev pub decreases-loop-filling : goal.decreases-loop-filling
decreases-loop-filling g l = star_count l.left + place_sources l.left + l.filling.groups
