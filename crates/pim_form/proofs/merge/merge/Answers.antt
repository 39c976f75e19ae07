use Rattle.pim_form.proofs.Words.{subst, IsNormal}
use Rattle.pim_form.proofs.Merged.{merged_normal}
use Rattle.pim_form.proofs.Merging.{kept_of_draft}
use Rattle.pim_form.proofs.merge.merge.Goals as goal

pub invariant_of-result : goal.invariant_of-result
invariant_of-result g c =
    let family = g.F.Family.family in
    kept_of_draft g.F.Family.bytes_of family c.push_merged.new.row.items c.push_merged.new.places.items _ c.in_ok-push_merged.ensures
    (merged_normal family c.args.one.now c.args.other.now (subst (IsNormal family) c.one.view_is c.one.invariant.normal) (subst (IsNormal family) c.other.view_is c.other.invariant.normal))

pub returns : goal.returns
returns g c = c.in_ok-push_merged.ensures.seen
