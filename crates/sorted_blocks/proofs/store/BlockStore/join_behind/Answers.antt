use Rattle.sorted_blocks.proofs.Moves.{merge_stays}
use Rattle.std.proofs.Common.{arith}
use Rattle.sorted_blocks.proofs.store.BlockStore.join_behind.Goals.{else-place-count-via-then-place-count+else-are_short, else-place-count-via-else-place-count}
use Rattle.sorted_blocks.proofs.Dense.{not_short, front-merge, back-merge, dense-more}
use Rattle.sorted_blocks.proofs.store.BlockStore.join_behind.Goals as goal

pub returns-then-are_short-clause-items : goal.returns-then-are_short-clause-items
returns-then-are_short-clause-items g c =
    (merge_stays c.args.self.now c.merge.new.self c.args.place (omega (arith, c.block_count-count.ensures.count, c.if-place-count.true)) c.requires.at c.merge.ensures.blocks).same

pub returns-then-are_short-clause-before : goal.returns-then-are_short-clause-before
returns-then-are_short-clause-before g c =
    (merge_stays c.args.self.now c.merge.new.self c.args.place (omega (arith, c.block_count-count.ensures.count, c.if-place-count.true)) c.requires.at c.merge.ensures.blocks).stands

pub returns-then-are_short-clause-front : goal.returns-then-are_short-clause-front
returns-then-are_short-clause-front g c d =
    rw c.merge.ensures.blocks (front-merge g.row.HALF c.args.self.now.blocks c.args.place.block _ (omega (arith, c.block_count-count.ensures.count, c.if-place-count.true)) d)

pub returns-then-are_short-clause-back : goal.returns-then-are_short-clause-back
returns-then-are_short-clause-back g c d =
    rw c.merge.ensures.blocks (back-merge g.row.HALF c.args.self.now.blocks c.args.place.block (omega (arith, c.block_count-count.ensures.count, c.if-place-count.true)) d)

pub returns-else-place-count-clause-back : goal.returns-else-place-count-clause-back
returns-else-place-count-clause-back g c d =
    dense-more g.row.HALF c.args.self.now.blocks c.args.place.block _ (λ h. elim c.else-place-count.branch [
      | else-place-count-via-then-place-count+else-are_short w ↦ not_short _ g.row.HALF (w.if-are_short.ensures {u = tt}).1
      | else-place-count-via-else-place-count w ↦ absurd (omega (arith, h, w.if-place-count.false, c.block_count-count.ensures.count))
    ]) d
