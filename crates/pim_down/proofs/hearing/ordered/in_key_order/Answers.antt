use Rattle.pim_down.proofs.hearing.ordered.in_key_order.Goals as goal

pub returns-then-stars_come_first : goal.returns-then-stars_come_first
returns-then-stars_come_first g c = rw c.in-Ok.ensures at c.all_in_key_order.ensures

pub returns : goal.returns
returns g c = rw c.in-Ok.ensures at c.sources_in_key_order.ensures
