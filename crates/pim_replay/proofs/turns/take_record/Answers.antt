use Rattle.pim_replay.proofs.Words.{rules, refl, ap, ◌∙◌, ◌+◌, min, top_count, skips_in, content_seen, turn_seen}
use Rattle.pim_router.specs.Seen.{packet_seen}
use Rattle.pim_replay.proofs.Taken.{packet_stays, not_held, none_told, skipped, packet_begun, packet_event}
use Rattle.pim_replay.proofs.turns.take_record.Goals as goal

pub returns-in_default : goal.returns-in_default
returns-in_default g c = record {
  reported = skipped (g.L.Listener.line c.args.listener.now) g.F.Family.family (turn_seen c.args.bytes.now c.args.turn.now) c.args.router.now (content_seen g.F.Family.bytes_of c.content-content.result) c.content-content.ensures.content
      (skips_in (content_seen g.F.Family.bytes_of c.content-content.result))
      (not_held g.F.Family.bytes_of c.content-content.result c.in_default.not-Datagram g.F.Family.family c.args.turn.now.capture c.args.router.now) (g.L.Listener.contents c.args.device.now) c.args.counts
      c.saturating_add.result (search rules)
      (c.saturating_add.ensures ∙ ap (λ n. min (c.args.counts.skipped + n) top_count) (c.skips_in.ensures g.F.Family.bytes_of));
  count = refl;
  moment = refl;
  setup = refl;
}

pub returns-in_default-take_packet-clause-reported : goal.returns-in_default-take_packet-clause-reported
returns-in_default-take_packet-clause-reported g c =
    none_told (g.L.Listener.line c.args.listener.now) g.F.Family.family (turn_seen c.args.bytes.now c.args.turn.now) c.args.router.now (g.L.Listener.contents c.args.device.now)

pub returns-in_default-hear-clause-reported : goal.returns-in_default-hear-clause-reported
returns-in_default-hear-clause-reported g c =
    packet_begun (g.L.Listener.line c.args.listener.now) g.F.Family.family (turn_seen c.args.bytes.now c.args.turn.now) c.args.router.now (content_seen g.F.Family.bytes_of c.content-content.result) c.content-content.ensures.content
    (g.F.Family.bytes_of c.in-Datagram.sent.source) (g.F.Family.bytes_of c.in-Datagram.sent.destination) c.in-Datagram.sent.payload.now (ap (content_seen g.F.Family.bytes_of) c.in-Datagram.is)
    c.now-moment.result c.now-moment.ensures c.in-Ok.verdict c.take_packet.new.self c.in-Ok.ensures.reported (g.L.Listener.contents c.args.device.now) (g.L.Listener.contents c.hear.new.device) c.in_default-hear.ensures.bytes

pub returns-clause-reported : goal.returns-clause-reported
returns-clause-reported g c =
    packet_event (g.L.Listener.line c.args.listener.now) g.F.Family.family (turn_seen c.args.bytes.now c.args.turn.now) c.args.router.now (content_seen g.F.Family.bytes_of c.content-content.result) c.content-content.ensures.content
    (g.F.Family.bytes_of c.in-Datagram.sent.source) (g.F.Family.bytes_of c.in-Datagram.sent.destination) c.in-Datagram.sent.payload.now (ap (content_seen g.F.Family.bytes_of) c.in-Datagram.is)
    c.now-moment.result c.now-moment.ensures c.in-Ok.verdict c.take_packet.new.self c.in-Ok.ensures.reported (g.L.Listener.contents c.args.device.now) (g.L.Listener.contents c.hear.new.device)
    c.args.counts (search rules) (search rules) c.in-Ok-hear.ensures.bytes

pub returns-clause-moment : goal.returns-clause-moment
returns-clause-moment g c =
    packet_stays g.F.Family.family
    (packet_seen g.F.Family.bytes_of c.args.turn.now.capture c.in-Datagram.sent.source c.in-Datagram.sent.destination c.in-Datagram.sent.payload.now)
    c.args.router.now c.take_packet.new.self c.in-Ok.verdict c.in-Ok.ensures.reported
