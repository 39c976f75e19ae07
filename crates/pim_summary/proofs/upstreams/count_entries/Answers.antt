use Rattle.pim_summary.proofs.Counted.{entry_counted, entries_counted}
use Rattle.pim_summary.proofs.upstreams.count_entries.Goals as goal

pub loop-entry-preserved : goal.loop-entry-preserved
loop-entry-preserved g c = (
  entry_counted g.F.Family.family _ _ _ _ _ _ c.in-Some.ensures.steps c.count_entry.ensures.rps
      c.loop-entry.invariant.0,
  c.count_entry.ensures.order,
  c.count_entry.ensures.room,
)

pub returns-clause-rps : goal.returns-clause-rps
returns-clause-rps g c = entries_counted g.F.Family.family _ _ _ c.in-None.ensures.steps.0
    c.loop-entry.invariant.0
