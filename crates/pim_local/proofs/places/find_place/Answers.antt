use Rattle.pim_local.proofs.Words.{rules, answers_always, join_seen}
use Rattle.pim_local.proofs.Found.{place_by, same_order}
use Rattle.pim_local.proofs.places.find_place.Goals as goal

pub returns : goal.returns
returns g c = place_by (join_seen g.F.Family.bytes_of) c.args.joins.now (join_seen g.F.Family.bytes_of c.args.join.now) c.requires c.args.join.now c.binary_search_by_key.result c.binary_search_by_key.ensures.bound
    _ (λ held. same_order g.F.Family.bytes_of _ g.met.F.Family.order_of_bytes held c.args.join.now)
    (c.binary_search_by_key.ensures.position (λ held. (held.group, held.source)) (answers_always _ _ _ (λ f a r k called. search rules)))
