use Rattle.pim_down.proofs.Reordered.{sorted_alike}
use Rattle.pim_down.proofs.hearing.ordered.all_in_key_order.Goals as goal

pub returns-then-stars_come_first : goal.returns-then-stars_come_first
returns-then-stars_come_first g c =
    let ordered = c.put_in_key_order in
    let again = rw c.deref.ensures.value at (c.stars_come_first.ensures c.if-stars_come_first.true) in
    sorted_alike g.F.Family.bytes_of c.args.events.items ordered.new.events.items ordered.ensures.permutation ordered.ensures.stable c.requires again
