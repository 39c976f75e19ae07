use Rattle.pim_answers.proofs.Words.{◌++◌, packet_seen, verdict_line, fault_words, ok_line, Takes, NeedsMemory}
use Rattle.pim_answers.proofs.Taken.{taken}
use Rattle.pim_answers.proofs.Wrote.{memory_given, memory_refused}
use Rattle.pim_answers.proofs.packets.take.Goals as goal

pub returns-in-Ok-clause-answered : goal.returns-in-Ok-clause-answered
returns-in-Ok-clause-answered g c =
    let packet = packet_seen g.F.Family.bytes_of c.args.port c.args.ends.source c.args.ends.destination c.args.message.now in
    memory_given (NeedsMemory g.F.Family.family packet c.args.router.now) c.args.router.now (Takes g.F.Family.family packet c.args.router.now) (g.W.Drain.contents c.args.answers.now) (g.W.Drain.contents c.answer_verdict.new.answers) c.answer_verdict.result
    c.take_packet.new.self (verdict_line c.in-Ok.verdict ++ ok_line)
    (taken g.F.Family.family packet c.args.router.now c.take_packet.new.self c.in-Ok.verdict c.in-Ok.ensures.reported) c.answer_verdict.ensures.bytes

pub returns-in-Err-clause-answered : goal.returns-in-Err-clause-answered
returns-in-Err-clause-answered g c =
    let packet = packet_seen g.F.Family.bytes_of c.args.port c.args.ends.source c.args.ends.destination c.args.message.now in
    memory_refused (NeedsMemory g.F.Family.family packet c.args.router.now) c.args.router.now c.take_packet.new.self (Takes g.F.Family.family packet c.args.router.now) (g.W.Drain.contents c.args.answers.now) (g.W.Drain.contents c.write_fault.new.answers) c.write_fault.result
    (fault_words c.memory.result) (c.in-Err.ensures.reported.0, c.in-Err.ensures.memory) c.in-Err.ensures.reported.1 c.memory.ensures c.write_fault.ensures.bytes
