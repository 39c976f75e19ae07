use Rattle.sorted_blocks.proofs.Words.{ap, Shape}
use Rattle.sorted_blocks.proofs.Dense.{dense-none}
use Rattle.sorted_blocks.proofs.blocks.Blocks.new.Goals as goal

pub invariant_of-result : goal.invariant_of-result
invariant_of-result g c = dense-none g.row.HALF _ (ap (λ (s : Shape g.row.T.Denot). s.blocks) c.new.ensures)
