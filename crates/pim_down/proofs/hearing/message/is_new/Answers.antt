use Rattle.pim_down.proofs.Words.{◌&&◌, not, sym, ap, ◌∙◌, is_some, machine_at, key_of, event_seen, records_seen}
use Rattle.pim_down.proofs.Sought.{missing_is}
use Rattle.pim_down.proofs.hearing.message.is_new.Goals as goal

pub returns-then-creates : goal.returns-then-creates
returns-then-creates g c =
    let bytes_of = g.F.Family.bytes_of in
    let key = key_of c.args.port (event_seen bytes_of c.args.event.now) in
    let list = c.args.records.now in
    c.is_err.ensures.value ∙ missing_is bytes_of key list c.requires c.find_place-found.result c.find_place-found.ensures
    ∙ ap (λ b. b && not (is_some (machine_at key (records_seen bytes_of list.items)))) (sym c.if-creates.true ∙ c.creates.ensures bytes_of)
