use Rattle.pim_transitions.proofs.Words.{rules, on_ok_weaker}
use Rattle.pim_transitions.proofs.Sorting.{stays_by, sorts_by, mark_key, rise_of, keep_of}
use Rattle.pim_transitions.proofs.order.put_in_key_order.Goals as goal

pub returns-clause-rise : goal.returns-clause-rise
returns-clause-rise g c =
    let bytes_of = g.F.Family.bytes_of in
    on_ok_weaker c.sort_by.result
    (λ sorted. rise_of bytes_of _ (sorts_by (mark_key bytes_of) _ sorted (λ a r q k. search rules)))
    c.sort_by.ensures.sorted

pub returns-clause-stable : goal.returns-clause-stable
returns-clause-stable g c =
    let bytes_of = g.F.Family.bytes_of in
    keep_of bytes_of g.F.Family.address_of g.met.F.Family.put_of_take _ _
    (stays_by (mark_key bytes_of) _ _ c.sort_by.ensures.stable (λ a r q k. search rules))
