use Rattle.std.proofs.Common.{◌∙◌, ap}
use Rattle.pim_summary.specs.Routers.{rps_seen, with_entries}
use Rattle.pim_summary.proofs.Counted.{set_counted, sets_counted}
use Rattle.pim_summary.proofs.upstreams.count_sets.Goals as goal

pub loop-set-preserved : goal.loop-set-preserved
loop-set-preserved g c = (
  set_counted g.F.Family.family _ _ _ _ _ _ c.in-Some.ensures.steps
      (c.count_entries.ensures.rps ∙ ap (λ it. with_entries g.F.Family.family it (rps_seen
      c.loop-set.rps.items c.loop-set.has_more)) c.joined.ensures)
      c.loop-set.invariant.0,
  c.count_entries.ensures.order,
  c.count_entries.ensures.room,
)

pub returns-clause-rps : goal.returns-clause-rps
returns-clause-rps g c = sets_counted g.F.Family.family _ _ _ c.in-None.ensures.steps.0
    c.loop-set.invariant.0
