use Rattle.sorted_blocks.proofs.Words.{cut, block_at, IsDenseIn, ◌+◌, length, ap, ◌∙◌, arith, lit<, length-set}
use Rattle.sorted_blocks.proofs.Moves.{item_block, set_before, cut_items, cut_block, cut_at}
use Rattle.sorted_blocks.proofs.Dense.{front-set, back-set}
use Rattle.sorted_blocks.proofs.store.BlockStore.remove_within.Goals as goal

pub cut_out-requires : goal.cut_out-requires
cut_out-requires g c = (lit< tt, (item_block c.args.self.now c.args.place c.requires.item, (c.requires.within, c.requires.others)))

pub join_behind-place-requires : goal.join_behind-place-requires
join_behind-place-requires g c =
    let s = c.args.self.now in
    let h = item_block s c.args.place c.requires.item in
    (lit< tt, (cut_block s c.cut_out.new.self c.args.place _ h c.cut_out.ensures.blocks, cut_at s c.cut_out.new.self c.args.place c.args.count h c.requires.within c.cut_out.ensures.blocks))

pub returns-clause-items : goal.returns-clause-items
returns-clause-items g c =
    c.join_before.ensures.items ∙ c.join_behind-place.ensures.items ∙ cut_items c.args.self.now c.cut_out.new.self c.args.place c.args.count (item_block c.args.self.now c.args.place c.requires.item) c.requires.within c.cut_out.ensures.blocks

pub returns-clause-before : goal.returns-clause-before
returns-clause-before g c =
    c.join_before.ensures.before ∙ c.join_behind-place.ensures.before ∙ set_before c.args.self.now c.cut_out.new.self c.args.place _ c.cut_out.ensures.blocks

pub returns-clause-total : goal.returns-clause-total
returns-clause-total g c =
    let bs = c.args.self.now.blocks in
    let same = ap length c.cut_out.ensures.blocks ∙ length-set bs c.args.place.block (cut (block_at bs c.args.place.block) c.args.place.at c.args.count) in
    omega (arith, c.join_before.ensures.total, c.join_behind-place.ensures.total, same, c.cut_out.ensures.spare)

pub returns-clause-dense : goal.returns-clause-dense
returns-clause-dense g c d =
    let cut_bs = c.cut_out.new.self.blocks in
    let front : IsDenseIn g.row.HALF cut_bs 0 c.args.place.block = rw c.cut_out.ensures.blocks (front-set g.row.HALF c.args.self.now.blocks c.args.place.block _ d (item_block c.args.self.now c.args.place c.requires.item)) in
    let back : IsDenseIn g.row.HALF cut_bs (c.args.place.block + 1) (length cut_bs) = rw c.cut_out.ensures.blocks (back-set g.row.HALF c.args.self.now.blocks c.args.place.block _ d) in
    c.join_before.ensures.dense (c.join_behind-place.ensures.front front) (c.join_behind-place.ensures.back back)
