use Rattle.std.proofs.Common.{arith, lit<}
use Rattle.sorted_blocks.proofs.Moves.{in_block, at_most, split_stays, split_moves}
use Rattle.sorted_blocks.proofs.Dense.{split-dense}
use Rattle.sorted_blocks.proofs.store.BlockStore.make_way.Goals as goal

pub block_len-requires : goal.block_len-requires
block_len-requires g c = (lit< tt, in_block c.args.self.now c.args.place c.requires.place c.requires.some)

pub returns-then-block_len-clause-at : goal.returns-then-block_len-clause-at
returns-then-block_len-clause-at g c = at_most c.args.self.now c.args.place c.requires.place

pub split-requires : goal.split-requires
split-requires g c =
    (lit< tt, (in_block c.args.self.now c.args.place c.requires.place c.requires.some, (omega (arith, c.block_len.ensures.len, c.if-block_len.false, c.block_len.ensures.most), c.requires.spare)))

pub returns-then-place-clause-items : goal.returns-then-place-clause-items
returns-then-place-clause-items g c =
    let h = in_block c.args.self.now c.args.place c.requires.place c.requires.some in
    (split_stays g.row.HALF c.args.self.now c.split.new.self c.args.place h (omega (arith, c.block_len.ensures.len, c.if-block_len.false, c.block_len.ensures.most)) c.split.ensures.blocks c.if-place.true).same

pub returns-then-place-clause-before : goal.returns-then-place-clause-before
returns-then-place-clause-before g c =
    let h = in_block c.args.self.now c.args.place c.requires.place c.requires.some in
    (split_stays g.row.HALF c.args.self.now c.split.new.self c.args.place h (omega (arith, c.block_len.ensures.len, c.if-block_len.false, c.block_len.ensures.most)) c.split.ensures.blocks c.if-place.true).stands

pub returns-clause-items : goal.returns-clause-items
returns-clause-items g c =
    let h = in_block c.args.self.now c.args.place c.requires.place c.requires.some in
    (split_moves g.row.HALF c.args.self.now c.split.new.self c.args.place h (at_most c.args.self.now c.args.place c.requires.place) (omega (arith, c.block_len.ensures.len, c.if-block_len.false, c.block_len.ensures.most)) c.split.ensures.blocks (omega (arith, c.if-place.false))).same

pub returns-clause-at : goal.returns-clause-at
returns-clause-at g c =
    let h = in_block c.args.self.now c.args.place c.requires.place c.requires.some in
    (split_moves g.row.HALF c.args.self.now c.split.new.self c.args.place h (at_most c.args.self.now c.args.place c.requires.place) (omega (arith, c.block_len.ensures.len, c.if-block_len.false, c.block_len.ensures.most)) c.split.ensures.blocks (omega (arith, c.if-place.false))).at

pub returns-clause-before : goal.returns-clause-before
returns-clause-before g c =
    let h = in_block c.args.self.now c.args.place c.requires.place c.requires.some in
    (split_moves g.row.HALF c.args.self.now c.split.new.self c.args.place h (at_most c.args.self.now c.args.place c.requires.place) (omega (arith, c.block_len.ensures.len, c.if-block_len.false, c.block_len.ensures.most)) c.split.ensures.blocks (omega (arith, c.if-place.false))).stands

pub returns-then-place-clause-dense : goal.returns-then-place-clause-dense
returns-then-place-clause-dense g c d = rw c.split.ensures.blocks (split-dense g.row.HALF c.args.self.now c.args.place.block c.split.ensures.filled (in_block c.args.self.now c.args.place c.requires.place c.requires.some) c.block_len.ensures.half (omega (arith, c.block_len.ensures.len, c.if-block_len.false, c.block_len.ensures.most)) d)

pub returns-clause-dense : goal.returns-clause-dense
returns-clause-dense g c d = rw c.split.ensures.blocks (split-dense g.row.HALF c.args.self.now c.args.place.block c.split.ensures.filled (in_block c.args.self.now c.args.place c.requires.place c.requires.some) c.block_len.ensures.half (omega (arith, c.block_len.ensures.len, c.if-block_len.false, c.block_len.ensures.most)) d)
