use Rattle.pim_trace.proofs.Words.{refl, ap, ledger_seen, packet_in, message_in}
use Rattle.pim_hello.specs.Seen.{hello_seen}
use Rattle.pim_trace.proofs.Hearings.{hello_stopped, hello_told, own_told, verdict_told}
use Rattle.pim_trace.proofs.hearing.hear_hello.Goals as goal

pub returns-in_default-clause-reported : goal.returns-in_default-clause-reported
returns-in_default-clause-reported g c =
    let bytes_of = g.F.Family.bytes_of in
    hello_stopped g.F.Family.family c.args.packet.now.frame (packet_in bytes_of c.args.packet.now) (ledger_seen bytes_of c.args.ledger.now) c.args.router.now (g.T.EventWriter.line c.args.event_writer.now)
    (hello_seen g.F.Family.family c.args.hello) c.requires.read (g.T.EventWriter.contents c.args.device.now)

pub returns-in-HelloTaken-clause-reported : goal.returns-in-HelloTaken-clause-reported
returns-in-HelloTaken-clause-reported g c =
    let bytes_of = g.F.Family.bytes_of in
    hello_told g.F.Family.family c.args.packet.now.frame (packet_in bytes_of c.args.packet.now) (ledger_seen bytes_of c.args.ledger.now) c.args.router.now (g.T.EventWriter.line c.args.event_writer.now)
    (hello_seen g.F.Family.family c.args.hello) c.requires.read c.in-Ok.verdict c.take.new.router c.in-Ok.ensures.reported c.now-ms.result c.now-ms.ensures
    c.greet.result (ledger_seen bytes_of c.greet.new.ledger) (g.T.EventWriter.contents c.args.device.now) (g.T.EventWriter.contents c.greet.new.device)
    c.in-HelloTaken.heard c.generation_kept-was.result c.in-HelloTaken.is c.generation_kept-was.ensures c.greet.ensures.bytes c.greet.ensures.ledger

pub returns-in-Mine-clause-reported : goal.returns-in-Mine-clause-reported
returns-in-Mine-clause-reported g c =
    let bytes_of = g.F.Family.bytes_of in
    own_told g.F.Family.family c.args.packet.now.frame (packet_in bytes_of c.args.packet.now) (ledger_seen bytes_of c.args.ledger.now) c.args.router.now (g.T.EventWriter.line c.args.event_writer.now)
    (hello_seen g.F.Family.family c.args.hello) c.requires.read c.in-Ok.verdict c.take.new.router c.in-Ok.ensures.reported c.now-ms.result c.now-ms.ensures
    c.hear_own.result (ledger_seen bytes_of c.hear_own.new.ledger) (g.T.EventWriter.contents c.args.device.now) (g.T.EventWriter.contents c.hear_own.new.device)
    c.in-Mine.is c.hear_own.ensures.bytes c.hear_own.ensures.ledger

pub write_verdict-requires : goal.write_verdict-requires
write_verdict-requires g c = ap message_in c.requires.read

pub hear_own-requires-clause-message : goal.hear_own-requires-clause-message
hear_own-requires-clause-message g c = ap message_in c.requires.read

pub take-requires-clause-read : goal.take-requires-clause-read
take-requires-clause-read g c = c.requires.read

pub returns-in_default-verdict : goal.returns-in_default-verdict
returns-in_default-verdict g c =
    let bytes_of = g.F.Family.bytes_of in
    record {
      reported = verdict_told g.F.Family.family c.args.packet.now.frame (packet_in bytes_of c.args.packet.now) (ledger_seen bytes_of c.args.ledger.now) c.args.router.now (g.T.EventWriter.line c.args.event_writer.now)
          (hello_seen g.F.Family.family c.args.hello) c.requires.read c.in-Ok.verdict c.take.new.router c.in-Ok.ensures.reported c.now-ms.result c.now-ms.ensures
          c.write_verdict.result (ledger_seen bytes_of c.args.ledger.now) (g.T.EventWriter.contents c.args.device.now) (g.T.EventWriter.contents c.write_verdict.new.device)
          (λ heard is. c.in_default-verdict.not-HelloTaken heard is) (λ is. c.in_default-verdict.not-Mine is) refl c.write_verdict.ensures.bytes;
      count = c.write_verdict.ensures.count;
      setup = c.take.ensures.setup;
      moment = c.take.ensures.moment;
      frames = refl;
      own = refl;
    }
