use Rattle.pim_trace.proofs.Words.{◌∙◌, length, ap, sym, Table}
use Rattle.pim_trace.proofs.Neighbours.{all_on}
use Rattle.pim_trace.proofs.changing.neighbour_count.Goals as goal

pub returns : goal.returns
returns g c = c.neighbour_count.ensures ∙ ap (λ (t : Table). length t.entries) (sym (all_on c.args.router.now c.args.port c.is_router.ensures))
