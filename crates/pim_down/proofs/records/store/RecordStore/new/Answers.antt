use Rattle.pim_down.proofs.Counts.{kept_none}
use Rattle.pim_down.proofs.Numbered.{timed_none}
use Rattle.pim_down.proofs.records.store.RecordStore.new.Goals as goal

pub invariant_of-result : goal.invariant_of-result
invariant_of-result g c = (
  kept_none _ _ c.new.result c.no_counts.ensures c.no_counts-2.ensures c.new.ensures,
  timed_none g.O.KeyOrder.bytes_of c.new.result c.new-2.result.pending c.new-2.result.expiry c.new.ensures c.new-2.ensures.pending c.new-2.ensures.expiry,
)
