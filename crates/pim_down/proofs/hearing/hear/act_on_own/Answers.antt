use Rattle.pim_down.proofs.Words.{◌∙◌, Option, length, ap, arith, Machine, start_seen, machine_seen, event_seen, records_seen, on_own, key_of}
use Rattle.pim_down.proofs.Each.{changed_into, length_act}
use Rattle.pim_down.proofs.hearing.hear.act_on_own.Goals as goal

pub put_machine-place-requires-clause-room : goal.put_machine-place-requires-clause-room
put_machine-place-requires-clause-room g c =
    let bytes_of = g.F.Family.bytes_of in
    let event = event_seen bytes_of c.args.event in
    let seen = records_seen bytes_of c.args.records.now.items in
    let change : Option Machine → Option Machine = on_own event.joins event.what (start_seen c.args.start) in
    let own = changed_into (key_of c.args.port event) change (machine_seen c.on_own.result) seen c.requires.ascending (c.on_own.ensures bytes_of ∙ ap change c.machine_of-held.ensures) in
    let long = ap length own in
    let whole = length_act c.args.port (start_seen c.args.start) event seen in
    omega (arith, c.requires.room)

pub returns-clause-records : goal.returns-clause-records
returns-clause-records g c =
    let bytes_of = g.F.Family.bytes_of in
    let event = event_seen bytes_of c.args.event in
    let change : Option Machine → Option Machine = on_own event.joins event.what (start_seen c.args.start) in
    c.put_machine-place.ensures.left ∙ changed_into (key_of c.args.port event) change (machine_seen c.on_own.result) (records_seen bytes_of c.args.records.now.items) c.requires.ascending (c.on_own.ensures bytes_of ∙ ap change c.machine_of-held.ensures)
