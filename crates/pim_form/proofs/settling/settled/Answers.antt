use Rattle.pim_form.proofs.Words.{list_all, filter, is_on, record_settles, group_settles, IsSettledAt}
use Rattle.pim_form.proofs.PortSettled.{settles_exactly, by_first, by_second}
use Rattle.pim_form.proofs.settling.settled.Goals as goal

pub returns-then-all_held_settle : goal.returns-then-all_held_settle
returns-then-all_held_settle g c =
    let records = c.args.ports.now.records in
    let port = c.args.port in
    let form = c.args.normal.now in
    by_second (IsSettledAt port form records) c.all_held_settle.result c.all_groups_settle.result (list_all (record_settles form) (filter (is_on port) records)) (list_all (group_settles records port) form)
    c.all_held_settle.ensures c.if-all_held_settle.true c.all_groups_settle.ensures
    (settles_exactly records port c.keys_are_distinct.ensures form c.is_sound.ensures.ascending c.is_normal.ensures.ascending)

pub returns-else-all_held_settle : goal.returns-else-all_held_settle
returns-else-all_held_settle g c =
    let records = c.args.ports.now.records in
    let port = c.args.port in
    let form = c.args.normal.now in
    by_first (IsSettledAt port form records) c.all_held_settle.result (list_all (record_settles form) (filter (is_on port) records)) (list_all (group_settles records port) form)
    c.all_held_settle.ensures c.if-all_held_settle.false
    (settles_exactly records port c.keys_are_distinct.ensures form c.is_sound.ensures.ascending c.is_normal.ensures.ascending)
