use Rattle.pim_exchange.proofs.Words.{◌∙◌, ap, map, arith, delivery_seen, change_inputs}
use Rattle.pim_exchange.proofs.Moves.{wants_memory, early_too}
use Rattle.pim_exchange.proofs.change_hearing.hear_change.Goals as goal

pub returns-in_default : goal.returns-in_default
returns-in_default g c =
    wants_memory c.every_list_has_a_course.ensures g.F.Family.family (change_inputs g.F.Family.family c.args.change.now (g.F.Family.bytes_of c.args.sender) c.args.router.now.machines.moment) c.args.router.now

pub hear_deliveries-requires-clause-early : goal.hear_deliveries-requires-clause-early
hear_deliveries-requires-clause-early g c =
    early_too c.now-moment.result c.count.result (map delivery_seen c.deref.result.now) (omega (arith, c.requires.early, c.now-moment.ensures)) (ap (map delivery_seen) c.deref.ensures.value ∙ c.in-Ok.ensures)
