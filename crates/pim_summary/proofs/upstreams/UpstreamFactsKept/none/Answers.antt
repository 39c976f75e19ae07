use Rattle.pim_summary.proofs.Ordered.{none_ascends}
use Rattle.pim_summary.proofs.upstreams.UpstreamFactsKept.none.Goals as goal

pub invariant_of-result : goal.invariant_of-result
invariant_of-result c = (
  c.in_ok-with_capacity.ensures.capacity,
  none_ascends (λ facts.
      facts.address) _ c.in_ok-with_capacity.ensures.items,
)
