use Rattle.pim_down.proofs.Words.{take, drop, ap, ◌∙◌, IsPartitionedBy-ltb, at, records_seen}
use Rattle.pim_down.proofs.OnPort.{rising, together}
use Rattle.pim_down.proofs.records.walk.on_port.Goals as goal

pub first_behind-requires : goal.first_behind-requires
first_behind-requires g c = IsPartitionedBy-ltb (λ held. held.key.port) _ c.args.port (rising g.F.Family.bytes_of c.args.records.now.items c.requires.ascending)

pub returns : goal.returns
returns g c =
    let bytes_of = g.F.Family.bytes_of in
    let list = c.args.records.now in
    ap (records_seen bytes_of) (c.walk.ensures ∙ ap (λ n. take n (drop (at list c.first_behind.result) list.items)) (c.count_on.ensures bytes_of))
    ∙ together bytes_of c.args.port list.items (at list c.first_behind.result) c.requires.ascending c.first_behind.ensures.parts
