use Rattle.pim_answers.proofs.Words.{packet_seen, address_bytes, fault_words, destination_of}
use Rattle.pim_answers.proofs.Taken.{from_other, from_portless, from_unfilled, from_taken, portless, ported, same_packet}
use Rattle.pim_answers.proofs.packets.answer_from.Goals as goal

pub returns-in_default-clause-answered : goal.returns-in_default-clause-answered
returns-in_default-clause-answered g c =
    from_other g.F.Family.family c.args.from.now c.args.router.now (g.W.Drain.contents c.args.answers.now) (g.W.Drain.contents c.write_fault.new.answers) c.write_fault.result
    (fault_words c.family.result) c.in_default.ensures.other c.family.ensures c.write_fault.ensures.bytes

pub returns-in-Err-clause-answered : goal.returns-in-Err-clause-answered
returns-in-Err-clause-answered g c =
    from_portless g.F.Family.family c.args.from.now c.args.router.now (g.W.Drain.contents c.args.answers.now) (g.W.Drain.contents c.write_fault-in-Err.new.answers) c.write_fault-in-Err.result
    c.in-Some.ensures.same (fault_words c.in-Err.fault) (portless c.args.from.now.sender.port c.port_count.result c.args.router.now c.port_count.ensures c.in-Err.ensures.0) c.in-Err.ensures.1 c.write_fault-in-Err.ensures.bytes

pub returns-in-Ok-fill_spelled-clause-answered : goal.returns-in-Ok-fill_spelled-clause-answered
returns-in-Ok-fill_spelled-clause-answered g c =
    let from = c.args.from.now in
    from_taken g.F.Family.family from c.args.router.now (g.W.Drain.contents c.args.answers.now) (g.W.Drain.contents c.take.new.answers) c.take.result
    c.in-Some.ensures.same (ported from.sender.port c.port_count.result c.args.router.now c.port_count.ensures c.in-Ok.ensures.1)
    c.fill_spelled.new.room (g.F.Family.bytes_of c.in-Some.ends.source) (g.F.Family.bytes_of c.in-Some.ends.destination)
    (packet_seen g.F.Family.bytes_of c.in-Ok.port c.in-Some.ends.source c.in-Some.ends.destination c.message.result.now) c.take.new.router
    c.in-Ok-fill_spelled.ensures.message c.in-Some.ensures.ends.0 c.in-Some.ensures.ends.1
    (same_packet c.in-Ok.port from.sender.port (g.F.Family.bytes_of c.in-Some.ends.source) (address_bytes from.sender.source) (g.F.Family.bytes_of c.in-Some.ends.destination)
    (destination_of g.F.Family.family from.sender.destination) c.message.result.now c.fill_spelled.new.room c.in-Ok.ensures.0 c.in-Some.ensures.ends.0 c.in-Some.ensures.ends.1 c.message.ensures)
    c.take.ensures.answered

pub returns-in-Err-fill_spelled-clause-answered : goal.returns-in-Err-fill_spelled-clause-answered
returns-in-Err-fill_spelled-clause-answered g c =
    from_unfilled g.F.Family.family c.args.from.now c.args.router.now (g.W.Drain.contents c.args.answers.now) (g.W.Drain.contents c.write_fault-in-Err-fill_spelled.new.answers) c.write_fault-in-Err-fill_spelled.result
    c.in-Some.ensures.same (ported c.args.from.now.sender.port c.port_count.result c.args.router.now c.port_count.ensures c.in-Ok.ensures.1)
    (fault_words c.in-Err-fill_spelled.fault) c.in-Err-fill_spelled.ensures.fault c.write_fault-in-Err-fill_spelled.ensures.bytes
