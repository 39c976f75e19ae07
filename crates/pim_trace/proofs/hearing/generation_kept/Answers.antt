use Rattle.pim_trace.proofs.Words.{None, Some, sym, ap, ◌∙◌, neighbour_seen}
use Rattle.std.specs.Option.{option_map}
use Rattle.pim_trace.proofs.Neighbours.{kept_by}
use Rattle.pim_trace.proofs.hearing.generation_kept.Goals as goal

pub returns-in-Some : goal.returns-in-Some
returns-in-Some g c =
    let bytes_of = g.F.Family.bytes_of in
    kept_by c.args.router.now c.args.packet.now.port (bytes_of c.args.packet.now.source) c.is_router.ensures (Some (neighbour_seen bytes_of c.in-Some.known))
    (ap (option_map (neighbour_seen bytes_of)) (sym c.in-Some.is) ∙ c.neighbour.ensures)

pub returns-in-None : goal.returns-in-None
returns-in-None g c =
    let bytes_of = g.F.Family.bytes_of in
    kept_by c.args.router.now c.args.packet.now.port (bytes_of c.args.packet.now.source) c.is_router.ensures None
    (ap (option_map (neighbour_seen bytes_of)) (sym c.in-None.is) ∙ c.neighbour.ensures)
