use Rattle.pim_down.proofs.Reordered.{sorted_by_source_alike}
use Rattle.pim_down.proofs.hearing.ordered.sources_in_key_order.Goals as goal

pub returns : goal.returns
returns g c =
    let ordered = c.put_sources_in_key_order in
    sorted_by_source_alike g.F.Family.bytes_of c.args.events.items ordered.new.events.items ordered.ensures.permutation ordered.ensures.stable
