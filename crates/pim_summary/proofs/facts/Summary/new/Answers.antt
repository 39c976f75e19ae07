use Rattle.pim_summary.proofs.Ordered.{none_ascends}
use Rattle.pim_summary.proofs.facts.Summary.new.Goals as goal

pub invariant_of-result : goal.invariant_of-result
invariant_of-result c = (
  none_ascends (λ router. router.address) _ c.new-2.ensures.items,
  none_ascends (λ upstream. upstream.address) _ c.new-3.ensures.items,
  none_ascends (λ facts. facts.address) _ c.new-4.ensures.items,
)
