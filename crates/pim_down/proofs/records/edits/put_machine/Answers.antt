use Rattle.pim_down.proofs.Words.{sym, ◌∙◌, at, machine_seen, key_seen, records_seen}
use Rattle.pim_down.proofs.Lists.{inserted}
use Rattle.pim_down.proofs.Sought.{place_ok, place_err, replaced_is, room_one}
use Rattle.pim_down.proofs.records.edits.put_machine.Goals as goal

pub returns-in-Ok-default-clause-left : goal.returns-in-Ok-default-clause-left
returns-in-Ok-default-clause-left g c =
    let bytes_of = g.F.Family.bytes_of in
    let key = key_seen bytes_of c.args.key in
    let list = c.args.records.now in
    let found = place_ok bytes_of key list c.args.found c.in-Ok-default.place c.requires.found c.in-Ok-default.is-0 in
    replaced_is bytes_of key list.items (at list c.in-Ok-default.place) (records_seen bytes_of c.replace_at.new.records.items) (machine_seen c.args.machine) found.0.1 found.1 (λ d. c.replace_at.ensures.left bytes_of d)

pub insert_within-requires-clause-within : goal.insert_within-requires-clause-within
insert_within-requires-clause-within g c =
    let bytes_of = g.F.Family.bytes_of in
    let key = key_seen bytes_of c.args.key in
    let list = c.args.records.now in
    let found = place_err bytes_of key list c.args.found c.in-Err-Some.place c.requires.found c.in-Err-Some.is-0 in
    room_one bytes_of key list.items (at list c.in-Err-Some.place) list.capacity c.args.machine c.in-Err-Some.machine found.1 c.in-Err-Some.is-1 c.requires.room

pub returns-in-Err-Some-clause-left : goal.returns-in-Err-Some-clause-left
returns-in-Err-Some-clause-left g c =
    let bytes_of = g.F.Family.bytes_of in
    let list = c.args.records.now in
    let found = place_err bytes_of (key_seen bytes_of c.args.key) list c.args.found c.in-Err-Some.place c.requires.found c.in-Err-Some.is-0 in
    inserted bytes_of list.items c.insert_within.new.self.items (at list c.in-Err-Some.place) c.args.key c.in-Err-Some.machine c.args.machine c.insert_within.ensures.items c.in-Err-Some.is-1
    ∙ sym (found.1.after (λ _. machine_seen c.args.machine))
