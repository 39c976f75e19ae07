use Rattle.pim_down.proofs.Words.{◌≡◌, Option, Some, sym, ap, ◌∙◌, at, Machine, machine_at, on_star_join, timed_seen, records_seen, rpt_key}
use Rattle.pim_down.proofs.Each.{changed_into}
use Rattle.pim_down.proofs.Sought.{place_ok, place_err, machine_is, replaced_is}
use Rattle.pim_down.proofs.Stays.{joined_none}
use Rattle.pim_down.proofs.hearing.listed.join_rpt.Goals as goal

pub returns-in-Ok-clause-records : goal.returns-in-Ok-clause-records
returns-in-Ok-clause-records g c =
    let bytes_of = g.F.Family.bytes_of in
    let key = rpt_key c.args.port (bytes_of c.args.group) (bytes_of c.args.source) in
    let list = c.args.records.now in
    let seen = records_seen bytes_of list.items in
    let i = at list c.in-Ok.place in
    let found = place_ok bytes_of key list c.find_place-found.result c.in-Ok.place c.find_place-found.ensures c.in-Ok.is in
    let held = machine_is bytes_of key list.items i c.get.result.now found.0.1 c.get.ensures found.1 in
    let now : Option Machine = Some (timed_seen c.on_star_join-machine.result) in
    let joined : now ≡ on_star_join (machine_at key seen) = c.on_star_join-machine.ensures ∙ ap (λ (m : Option Machine). on_star_join m) held in
    replaced_is bytes_of key list.items i (records_seen bytes_of c.replace_at.new.records.items) now found.0.1 found.1 (λ d. c.replace_at.ensures.left bytes_of d)
    ∙ changed_into key (λ (m : Option Machine). on_star_join m) now seen c.requires joined

pub returns-in-Err-clause-records : goal.returns-in-Err-clause-records
returns-in-Err-clause-records g c =
    let bytes_of = g.F.Family.bytes_of in
    let key = rpt_key c.args.port (bytes_of c.args.group) (bytes_of c.args.source) in
    let list = c.args.records.now in
    let found = place_err bytes_of key list c.find_place-found.result c.in-Err.field-0 c.find_place-found.ensures c.in-Err.is in
    sym (joined_none key (records_seen bytes_of list.items) (at list c.in-Err.field-0) found.1)
