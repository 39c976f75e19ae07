use Rattle.pim_mirror.specs.Config.{neighbour_seen}
use Rattle.pim_hello.specs.Seen.{hello_seen}
use Rattle.pim_mirror.proofs.Hellos.{hello_met}
use Rattle.pim_mirror.proofs.meeting.meet.Goals as goal

pub returns-clause-passes : goal.returns-clause-passes
returns-clause-passes g c =
    hello_met c.sealed_opens.ensures g.F.Family.family (neighbour_seen g.F.Family.bytes_of c.args.neighbour)
    (g.F.Family.bytes_of c.all_routers.result) c.put_hello.new.frame (hello_seen g.F.Family.family c.hello_of-hello.result) c.args.router.now
    c.take_packet.new.self c.in_ok-take_packet.field-0 c.all_routers.ensures c.hello_of-hello.ensures c.put_hello.ensures.sealed
    c.put_hello.ensures.fits c.in_ok-take_packet.ensures.reported
