use Rattle.pim_addr.proofs.Words.{rules, ap, nat_cmp, ordering_then, answers_always, prefix_cmp, row_seen}
use Rattle.pim_addr.proofs.RowOrder.{place_by}
use Rattle.pim_addr.proofs.rows.find_place.Goals as goal

pub returns : goal.returns
unfolding prefix_cmp
returns g c = place_by (row_seen g.F.Family.bytes_of) c.args.rows.now (row_seen g.F.Family.bytes_of c.args.row.now).0 c.requires c.args.row.now c.binary_search_by_key.result c.binary_search_by_key.ensures.bound
    _ (λ held. ap (ordering_then (nat_cmp c.args.row.now.length held.length)) (g.met.F.Family.order_of_bytes held.prefix c.args.row.now.prefix))
    (c.binary_search_by_key.ensures.position (λ held. (record { 0 = held.length }, held.prefix)) (answers_always _ _ _ (λ f a r k called. search rules)))
