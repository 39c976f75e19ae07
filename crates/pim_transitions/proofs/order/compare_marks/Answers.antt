use Rattle.pim_transitions.proofs.Words.{◌∙◌, ordering_then, event_seen}
use Rattle.pim_transitions.proofs.Keys.{marks_cmp}
use Rattle.pim_transitions.proofs.order.compare_marks.Goals as goal

pub returns : goal.returns
returns g c =
    let bytes_of = g.F.Family.bytes_of in
    c.then.ensures ∙ (λ i. ordering_then (c.compare_addresses-by_group.ensures i) (c.compare_whats.ensures i))
    ∙ marks_cmp (event_seen bytes_of c.args.a.now) (event_seen bytes_of c.args.b.now)
