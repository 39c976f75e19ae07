use Rattle.pim_hello.proofs.Words.{◌∙◌, ap, jp_override_interval}
use Rattle.pim_hello.proofs.Kept.{hellos_seen}
use Rattle.pim_hello.proofs.neighbours.Neighbours.override_interval.Goals as goal

pub returns-clause-interval : goal.returns-clause-interval
returns-clause-interval g c = rw (← c.self.view_is)
    (c.override_interval.ensures.interval ∙ ap (jp_override_interval c.args.own.propagation c.args.own.override_ms) (hellos_seen g.F.Family.bytes_of c.self.inside.moment c.self.inside.roster.neighbours.entries))
