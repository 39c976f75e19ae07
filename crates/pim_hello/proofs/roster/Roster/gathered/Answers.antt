use Rattle.pim_hello.proofs.Words.{ap, ◌∙◌, map, max, option_map, values, delays_seen, hello_of_kept}
use Rattle.pim_hello.proofs.GreatestDelays.{greatest_so_far}
use Rattle.pim_hello.proofs.roster.Roster.gathered.Goals as goal

pub loop-kept-preserved : goal.loop-kept-preserved
loop-kept-preserved g c = greatest_so_far (hello_of_kept c.in-Some.kept.now) c.in-Some-lan.lan (map hello_of_kept c.loop-kept.kept-iterator) (map hello_of_kept c.next.new.self)
    (map hello_of_kept (values c.args.self.now.neighbours)) c.loop-kept.greatest.propagation c.loop-kept.greatest.override_ms _ _
    (ap (map hello_of_kept) c.in-Some.ensures.steps) (ap (option_map delays_seen) c.in-Some-lan.is)
    (c.or_greater-greatest.ensures.propagation ∙ ap (max c.loop-kept.greatest.propagation) c.heard_in.ensures.propagation)
    (c.or_greater-greatest.ensures.override_ms ∙ ap (max c.loop-kept.greatest.override_ms) c.heard_in.ensures.override_ms) c.loop-kept.invariant
