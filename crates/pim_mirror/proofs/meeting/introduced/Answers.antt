use Rattle.pim_mirror.proofs.Words.{◌∙◌, length, ap, refl, port_seen, new_router, fresh_seen, neighbour_seen, setup_of}
use Rattle.pim_mirror.proofs.Words.{port_of, sender_hello}
use Rattle.pim_mirror.proofs.Hellos.{made_is, one_port, all_met}
use Rattle.pim_mirror.proofs.meeting.introduced.Goals as goal

pub meet-requires : goal.meet-requires
meet-requires g c =
    one_port (port_seen g.F.Family.bytes_of) c.args.fresh.now.ports.now _ (setup_of (fresh_seen g.F.Family.bytes_of c.args.fresh.now)) c.in-Ok.router refl c.requires.one_port c.in-Ok.ensures

pub meet_others-requires : goal.meet_others-requires
meet_others-requires g c =
    ap length c.meet.ensures.ports
    ∙ one_port (port_seen g.F.Family.bytes_of) c.args.fresh.now.ports.now _ (setup_of (fresh_seen g.F.Family.bytes_of c.args.fresh.now)) c.in-Ok.router refl c.requires.one_port c.in-Ok.ensures

pub returns-clause-port : goal.returns-clause-port
returns-clause-port g c =
    ap length c.meet_others.ensures.ports
    ∙ ap length c.meet.ensures.ports
    ∙ one_port (port_seen g.F.Family.bytes_of) c.args.fresh.now.ports.now _ (setup_of (fresh_seen g.F.Family.bytes_of c.args.fresh.now)) c.in-Ok.router refl c.requires.one_port c.in-Ok.ensures

pub returns-clause-passes : goal.returns-clause-passes
returns-clause-passes g c =
    let fresh = fresh_seen g.F.Family.bytes_of c.args.fresh.now in
    all_met c.course_goes_on.ensures c.every_list_has_a_course.ensures g.F.Family.family
    (record { address = fresh.sender; hello = sender_hello (port_of fresh) }) (neighbour_seen g.F.Family.bytes_of c.sender_of.result)
    fresh.others (new_router (setup_of fresh)) c.in-Ok.router c.meet.new.router c.meet_others.new.router
    (made_is _ (new_router (setup_of fresh)) c.in-Ok.router c.in-Ok.ensures) c.sender_of.ensures c.in_ok-meet.ensures.passes c.in_ok-meet_others.ensures.passes
