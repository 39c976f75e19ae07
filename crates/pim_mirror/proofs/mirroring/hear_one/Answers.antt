use Rattle.pim_mirror.proofs.Words.{List, ℕ, ap, all_routers, Packet, delivery_seen}
use Rattle.pim_mirror.proofs.Heard.{one_heard}
use Rattle.pim_mirror.proofs.Refused.{stays_reached, refused_there}
use Rattle.pim_mirror.proofs.mirroring.hear_one.Goals as goal

pub returns-clause-passes : goal.returns-clause-passes
returns-clause-passes g c =
    one_heard c.course_goes_on.ensures c.every_list_has_a_course.ensures g.F.Family.family c.args.messages.now
    (g.F.Family.bytes_of c.args.sender) (delivery_seen c.args.delivery) c.message_at.result.now c.args.router.now c.reach.new.router
    c.take.new.router c.take.result c.message_at.ensures.bytes c.reach.ensures.reaches c.take.ensures.passes

pub returns-clause-reaches : goal.returns-clause-reaches
returns-clause-reaches g c =
    stays_reached g.F.Family.family c.args.messages.now (g.F.Family.bytes_of c.args.sender) (delivery_seen c.args.delivery) c.args.router.now c.reach.new.router c.take.new.router c.take.result
    c.reach.ensures.reaches c.take.ensures.unchanged

pub returns-clause-refused : goal.returns-clause-refused
returns-clause-refused g c =
    let of_bytes : List ℕ → Packet = λ bytes. record { port = 0; source = g.F.Family.bytes_of c.args.sender; destination = all_routers g.F.Family.family; bytes = bytes } in
    refused_there g.F.Family.family c.args.messages.now (g.F.Family.bytes_of c.args.sender) (delivery_seen c.args.delivery) (of_bytes c.message_at.result.now) c.reach.new.router c.take.new.router c.take.result
    (ap of_bytes c.message_at.ensures.bytes) c.take.ensures.unchanged c.take.ensures.refused
