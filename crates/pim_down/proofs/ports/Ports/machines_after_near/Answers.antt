use Rattle.pim_down.proofs.Words.{ℕ, List, ap, ◌∙◌, MachinesLeft, key_at, records_seen, Downstream, Key}
use Rattle.pim_down.proofs.Kept.{ascending_back}
use Rattle.pim_down.proofs.ports.Ports.machines_after_near.Goals as goal

abbrev machines_behind : Key (List ℕ) → Downstream → MachinesLeft
machines_behind key state = record { records = state.records; behind = key }

pub behind-requires : goal.behind-requires
behind-requires g c = ascending_back c.self.inside.moment (records_seen g.F.Family.bytes_of c.self.inside.records.items) c.self.invariant.0.ascending

pub returns : goal.returns
returns g c =
    let key = key_at g.F.Family.bytes_of c.args.port c.args.group c.args.what in
    c.behind.ensures
    ∙ ap (machines_behind key) c.self.view_is
