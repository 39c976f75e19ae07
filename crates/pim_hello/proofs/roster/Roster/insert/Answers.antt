use Rattle.pim_hello.proofs.GreatestDelays.{known_after}
use Rattle.pim_hello.proofs.roster.Roster.insert.Goals as goal

pub invariant_of-self-then-ne-clause-delays : goal.invariant_of-self-then-ne-clause-delays
invariant_of-self-then-ne-clause-delays g c = known_after g.A.Ord.cmp g.met.A.Ord.total c.args.self.now.delays_heard c.known_with-self.result c.in-Ok.known c.args.address c.args.kept
    c.args.self.now.neighbours.entries c.insert.new.self.entries c.args.self.now.ascending c.in-Ok.ensures.old c.in-Ok.ensures.entries c.args.self.now.delays
    c.known_with-self.ensures.new c.known_with-self.ensures.known

pub invariant_of-self-else-ne-clause-delays : goal.invariant_of-self-else-ne-clause-delays
invariant_of-self-else-ne-clause-delays g c = known_after g.A.Ord.cmp g.met.A.Ord.total c.args.self.now.delays_heard c.known_with-self.result c.in-Ok.known c.args.address c.args.kept
    c.args.self.now.neighbours.entries c.insert.new.self.entries c.args.self.now.ascending c.in-Ok.ensures.old c.in-Ok.ensures.entries c.args.self.now.delays
    c.known_with-self.ensures.new c.known_with-self.ensures.known
