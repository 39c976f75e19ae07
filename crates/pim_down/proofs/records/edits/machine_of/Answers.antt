use Rattle.pim_down.proofs.Words.{at, key_seen}
use Rattle.pim_down.proofs.Sought.{place_ok, machine_is}
use Rattle.pim_down.proofs.records.edits.machine_of.Goals as goal

pub returns-in-Ok : goal.returns-in-Ok
returns-in-Ok g c =
    let bytes_of = g.F.Family.bytes_of in
    let key = key_seen bytes_of c.args.key.now in
    let list = c.args.records.now in
    let found = place_ok bytes_of key list c.args.found c.in-Ok.place c.requires.found c.in-Ok.is in
    machine_is bytes_of key list.items (at list c.in-Ok.place) c.get.result.now found.0.1 c.get.ensures found.1
