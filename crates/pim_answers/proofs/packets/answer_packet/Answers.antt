use Rattle.pim_answers.proofs.Words.{◌∙◌, length, arith, ap, ℕ, hex_bytes, packet_seen, address_bytes, fault_words}
use Rattle.pim_answers.proofs.Taken.{packet_other, packet_portless, packet_taken, portless, ported, same_packet, short_bytes}
use Rattle.pim_answers.proofs.packets.answer_packet.Goals as goal

pub returns-in_default-clause-answered : goal.returns-in_default-clause-answered
returns-in_default-clause-answered g c =
    packet_other g.F.Family.family c.args.packet.now c.args.router.now (g.W.Drain.contents c.args.answers.now) (g.W.Drain.contents c.write_fault.new.answers) c.write_fault.result
    (fault_words c.family.result) c.in_default.ensures.other c.family.ensures c.write_fault.ensures.bytes

pub returns-in-Err-clause-answered : goal.returns-in-Err-clause-answered
returns-in-Err-clause-answered g c =
    packet_portless g.F.Family.family c.args.packet.now c.args.router.now (g.W.Drain.contents c.args.answers.now) (g.W.Drain.contents c.write_fault-in-Err.new.answers) c.write_fault-in-Err.result
    c.in-Some.ensures.same (fault_words c.in-Err.fault) (portless c.args.packet.now.port c.port_count.result c.args.router.now c.port_count.ensures c.in-Err.ensures.0) c.in-Err.ensures.1 c.write_fault-in-Err.ensures.bytes

pub decode-requires-clause-short : goal.decode-requires-clause-short
decode-requires-clause-short g c = let short = short_bytes c.args.packet.now.hex.now in let most = c.requires.short in omega arith

pub take-requires-clause-bytes : goal.take-requires-clause-bytes
take-requires-clause-bytes g c =
    let short = short_bytes c.args.packet.now.hex.now in
    let value = ap (length {A = ℕ}) (c.message.ensures ∙ c.decode.ensures) in
    let most = c.requires.short in
    omega arith

pub returns-clause-answered : goal.returns-clause-answered
returns-clause-answered g c =
    let packet = c.args.packet.now in
    packet_taken g.F.Family.family packet c.args.router.now (g.W.Drain.contents c.args.answers.now) (g.W.Drain.contents c.take.new.answers) c.take.result
    c.in-Some.ensures.same (ported packet.port c.port_count.result c.args.router.now c.port_count.ensures c.in-Ok.ensures.1)
    (packet_seen g.F.Family.bytes_of c.in-Ok.port c.in-Some.ends.source c.in-Some.ends.destination c.message.result.now) c.take.new.router
    (same_packet c.in-Ok.port packet.port (g.F.Family.bytes_of c.in-Some.ends.source) (address_bytes packet.source) (g.F.Family.bytes_of c.in-Some.ends.destination) (address_bytes packet.destination)
    c.message.result.now (hex_bytes packet.hex.now) c.in-Ok.ensures.0 c.in-Some.ensures.ends.0 c.in-Some.ensures.ends.1 (c.message.ensures ∙ c.decode.ensures))
    c.take.ensures.answered
