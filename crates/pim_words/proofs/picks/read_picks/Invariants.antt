use Rattle.std.proofs.Common.{drop}
use Rattle.pim_words.proofs.Further.{texts}
use Rattle.pim_words.proofs.Picking.{IsLeft}
use Rattle.pim_words.proofs.picks.read_picks.Given as goal

abbrev pub invariant-loop-value : goal.invariant-loop-value
invariant-loop-value l = IsLeft l.part l.is_any l.count (texts l.values) (texts (drop l.value-index l.values)) l.picks.items
