use Rattle.sorted_blocks.proofs.Words.{sym, ◌∙◌, arith, lit<, items, before}
use Rattle.sorted_blocks.proofs.Cuts.{cut_one}
use Rattle.sorted_blocks.proofs.Moves.{item_block, item_within, whole_items, whole_before, whole_is}
use Rattle.sorted_blocks.proofs.Dense.{dense-remove}
use Rattle.sorted_blocks.proofs.store.BlockStore.remove.Goals as goal

pub block_len-requires : goal.block_len-requires
block_len-requires g c = (lit< tt, item_block c.args.self.now c.args.place c.requires)

pub returns-then-block_len-eq1-clause-item : goal.returns-then-block_len-eq1-clause-item
returns-then-block_len-eq1-clause-item g c =
    whole_is c.args.self.now c.args.place c.take_whole-item.result (item_block c.args.self.now c.args.place c.requires) (item_within c.args.self.now c.args.place c.requires) (sym c.block_len.ensures.len ∙ c.if-block_len-eq1.true) c.take_whole-item.ensures.value

pub returns-then-block_len-eq1-clause-items : goal.returns-then-block_len-eq1-clause-items
returns-then-block_len-eq1-clause-items g c =
    whole_items c.args.self.now c.take_whole-item.new.self c.args.place (item_block c.args.self.now c.args.place c.requires) (item_within c.args.self.now c.args.place c.requires) (sym c.block_len.ensures.len ∙ c.if-block_len-eq1.true) c.take_whole-item.ensures.blocks

pub returns-then-block_len-eq1-clause-before : goal.returns-then-block_len-eq1-clause-before
returns-then-block_len-eq1-clause-before g c =
    c.start_of.ensures.before ∙ whole_before c.args.self.now c.take_whole-item.new.self c.args.place (item_block c.args.self.now c.args.place c.requires) (item_within c.args.self.now c.args.place c.requires) (sym c.block_len.ensures.len ∙ c.if-block_len-eq1.true) c.take_whole-item.ensures.blocks

pub remove_within-requires : goal.remove_within-requires
remove_within-requires g c =
    let at = item_within c.args.self.now c.args.place c.requires in
    (lit< tt, (c.requires, (omega (arith, at), omega (arith, c.block_len.ensures.len, c.block_len.ensures.some, c.if-block_len-eq1.false))))

pub returns-clause-items : goal.returns-clause-items
returns-clause-items g c = c.remove_within.ensures.items ∙ cut_one (items c.args.self.now) (before c.args.self.now c.args.place)

pub returns-then-block_len-eq1-clause-dense : goal.returns-then-block_len-eq1-clause-dense
returns-then-block_len-eq1-clause-dense g c d =
    rw c.take_whole-item.ensures.blocks (dense-remove g.row.HALF c.args.self.now.blocks c.args.place.block c.take_whole-item.ensures.filled (item_block c.args.self.now c.args.place c.requires) (sym c.block_len.ensures.len ∙ c.if-block_len-eq1.true) d)
