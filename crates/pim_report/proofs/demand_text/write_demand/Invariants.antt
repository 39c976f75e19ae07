use Rattle.pim_report.proofs.Words.{◌≡◌, flat_map, group_text}
use Rattle.pim_report.proofs.Written.{IsLeft}
use Rattle.pim_report.proofs.demand_text.write_demand.Given as goal

-- the lines of the groups that are left are still to be written
abbrev pub invariant-loop-group : goal.invariant-loop-group
invariant-loop-group g l =
    IsLeft (g.W.Drain.contents l.fn.writer) (g.W.Drain.contents l.writer) (flat_map (group_text g.F.Family.family l.shows_via l.routes) l.group-iterator)
    (flat_map (group_text g.F.Family.family l.shows_via l.routes) l.form)
    × (g.W.Drain.failures l.writer ≡ g.W.Drain.failures l.fn.writer)
