use Rattle.pim_mirror.proofs.Words.{ℕ, List, [], ◌∷◌, IfErr, subst, takes, packet_seen, Passes, IsRefused}
use Rattle.pim_mirror.proofs.Refused.{refusal_keeps, is_refused}
use Rattle.pim_mirror.proofs.Ways.{taken, taken_keeps}
use Rattle.pim_mirror.proofs.mirroring.take.Goals as goal

pub returns-clause-ports : goal.returns-clause-ports
returns-clause-ports g c =
    taken_keeps g.F.Family.family (packet_seen g.F.Family.bytes_of 0 c.args.source c.all_routers.result c.args.bytes.now) c.args.router.now
    c.take_packet.new.self c.take_packet.result c.take_packet.ensures.reported

pub returns-clause-passes : goal.returns-clause-passes
returns-clause-passes g c =
    subst (λ (destination : List ℕ). Passes g.F.Family.family (takes (record {
      port = 0;
      source = g.F.Family.bytes_of c.args.source;
      destination = destination;
      bytes = c.args.bytes.now;
    }) ∷ []) c.args.router.now c.passed.result c.take_packet.new.self) c.all_routers.ensures
    (taken g.F.Family.family (packet_seen g.F.Family.bytes_of 0 c.args.source c.all_routers.result c.args.bytes.now) c.args.router.now
    c.take_packet.new.self c.take_packet.result c.passed.result c.take_packet.ensures.reported c.passed.ensures)

pub returns-clause-unchanged : goal.returns-clause-unchanged
returns-clause-unchanged g c =
    refusal_keeps g.F.Family.family (packet_seen g.F.Family.bytes_of 0 c.args.source c.all_routers.result c.args.bytes.now) c.args.router.now
    c.take_packet.new.self c.take_packet.result c.take_packet.ensures.reported c.passed.result c.passed.ensures

pub returns-clause-refused : goal.returns-clause-refused
returns-clause-refused g c =
    subst (λ (destination : List ℕ). IfErr c.passed.result (IsRefused g.F.Family.family (record {
      port = 0;
      source = g.F.Family.bytes_of c.args.source;
      destination = destination;
      bytes = c.args.bytes.now;
    }) c.args.router.now)) c.all_routers.ensures
    (is_refused g.F.Family.family (packet_seen g.F.Family.bytes_of 0 c.args.source c.all_routers.result c.args.bytes.now) c.args.router.now
    c.take_packet.new.self c.take_packet.result c.take_packet.ensures.reported c.passed.result c.passed.ensures)
