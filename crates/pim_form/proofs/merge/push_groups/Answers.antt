use Rattle.std.proofs.Common.{◌++◌, subst}
use Rattle.pim_form.proofs.Merging.{IsRest, rest_step, draft_of_rest}
use Rattle.pim_form.proofs.merge.push_groups.Goals as goal

pub loop-group-preserved : goal.loop-group-preserved
loop-group-preserved g c = λ form draft.
    let bytes_of = g.F.Family.bytes_of in
    rest_step bytes_of c.loop-group.row.items c.push_group.new.row.items c.loop-group.places.items c.push_group.new.places.items c.in-Some.group c.next.new.self (form ++ c.args.groups)
    c.in_ok-push_group.ensures (subst (λ l. IsRest bytes_of c.loop-group.row.items c.loop-group.places.items l (form ++ c.args.groups)) c.in-Some.ensures.steps (c.loop-group.invariant form draft))

pub returns : goal.returns
returns g c = λ form draft.
    draft_of_rest g.F.Family.bytes_of c.loop-group.row.items c.loop-group.places.items c.loop-group.group-iterator (form ++ c.args.groups) c.in-None.ensures.steps.0 (c.loop-group.invariant form draft)
