use Rattle.pim_trace.proofs.Words.{subst, ap, AppendsAll, timed_out, Occurrence, neighbour_gone, Sent, ledger_seen}
use Rattle.pim_trace.proofs.Listed.{tells_one, same_event, is_stays}
use Rattle.pim_trace.proofs.passing.write_time_out.Goals as goal

pub returns-clause-reported : goal.returns-clause-reported
returns-clause-reported g c =
    let address = g.F.Family.bytes_of c.args.address in
    tells_one (g.T.EventWriter.line c.args.event_writer.now) (ledger_seen g.F.Family.bytes_of c.args.ledger.now) (ledger_seen g.F.Family.bytes_of c.forget_neighbour-sent.new.self) c.args.end
    (timed_out c.args.port address) (g.T.EventWriter.contents c.args.device.now) (g.T.EventWriter.contents c.write_on.new.device)
    c.write_on.result c.forget_neighbour-sent.ensures.ledger
    (subst (λ (e : Occurrence). AppendsAll (g.T.EventWriter.contents c.args.device.now) (g.T.EventWriter.contents c.write_on.new.device) c.write_on.result (g.T.EventWriter.line c.args.event_writer.now e))
    (same_event (ledger_seen g.F.Family.bytes_of c.args.ledger.now) (ledger_seen g.F.Family.bytes_of c.forget_neighbour-sent.new.self) c.args.end c.args.port _ _
    (is_stays (timed_out c.args.port address) (ledger_seen g.F.Family.bytes_of c.args.ledger.now) (ledger_seen g.F.Family.bytes_of c.forget_neighbour-sent.new.self) c.forget_neighbour-sent.ensures.ledger).begin
    (ap (λ (sent : Sent). neighbour_gone (record { neighbour = address; frame = sent.frame; ms = sent.ms })) c.forget_neighbour-sent.ensures.sent))
    c.write_on.ensures.bytes)
