use Rattle.pim_down.proofs.Words.{option_map, Some, None, ap, sym, ◌∙◌, Downstream, record_seen, records_seen}
use Rattle.pim_down.proofs.Kept.{ascending_back}
use Rattle.pim_down.proofs.Searched.{group_told}
use Rattle.pim_down.proofs.ports.Ports.group_after_near.Goals as goal

pub first_of_groups_after-first-requires : goal.first_of_groups_after-first-requires
first_of_groups_after-first-requires g c = (ascending_back c.self.inside.moment (records_seen g.F.Family.bytes_of c.self.inside.records.items) c.self.invariant.0.ascending)

pub returns-in-Some : goal.returns-in-Some
returns-in-Some g c =
    let bytes_of = g.F.Family.bytes_of in
    group_told bytes_of c.self.inside.moment (records_seen bytes_of c.self.inside.records.items) c.args.self.now.records (ap (λ (s : Downstream). s.records) c.self.view_is)
    c.args.port (option_map bytes_of c.args.group) (Some c.in-Some.first) (sym (ap (option_map (record_seen bytes_of)) c.in-Some.is) ∙ c.first_of_groups_after-first.ensures)

pub returns-in-None : goal.returns-in-None
returns-in-None g c =
    let bytes_of = g.F.Family.bytes_of in
    group_told bytes_of c.self.inside.moment (records_seen bytes_of c.self.inside.records.items) c.args.self.now.records (ap (λ (s : Downstream). s.records) c.self.view_is)
    c.args.port (option_map bytes_of c.args.group) None (sym (ap (option_map (record_seen bytes_of)) c.in-None.is) ∙ c.first_of_groups_after-first.ensures)
