use Rattle.pim_down.proofs.Words.{◌∙◌, ap, sym, subst, start_seen, event_seen, records_seen, IsAscending, each_changed, on_own, on_rpts, key_of}
use Rattle.pim_down.proofs.Map.{IsAscending-changed}
use Rattle.pim_down.proofs.Each.{act_star, act_other}
use Rattle.pim_down.proofs.hearing.hear.act.Goals as goal

pub join_rpts-requires : goal.join_rpts-requires
join_rpts-requires g c =
    let bytes_of = g.F.Family.bytes_of in
    let event = event_seen bytes_of c.args.event in
    subst IsAscending (sym c.act_on_own.ensures.records) (IsAscending-changed (key_of c.args.port event) (on_own event.joins event.what (start_seen c.args.start)) (records_seen bytes_of c.args.records.now.items) c.requires.ascending)

pub returns-then-is_star_join-clause-records : goal.returns-then-is_star_join-clause-records
returns-then-is_star_join-clause-records g c =
    let bytes_of = g.F.Family.bytes_of in
    let event = event_seen bytes_of c.args.event in
    c.join_rpts.ensures.records ∙ ap (each_changed (on_rpts c.args.port event.group)) c.act_on_own.ensures.records
    ∙ sym (act_star c.args.port (start_seen c.args.start) event (records_seen bytes_of c.args.records.now.items) (sym (c.is_star_join.ensures bytes_of) ∙ c.if-is_star_join.true))

pub returns-else-is_star_join-clause-records : goal.returns-else-is_star_join-clause-records
returns-else-is_star_join-clause-records g c =
    let bytes_of = g.F.Family.bytes_of in
    c.act_on_own.ensures.records ∙ sym (act_other c.args.port (start_seen c.args.start) (event_seen bytes_of c.args.event) (records_seen bytes_of c.args.records.now.items) (sym (c.is_star_join.ensures bytes_of) ∙ c.if-is_star_join.false))
