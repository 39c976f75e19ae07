use Rattle.sorted_blocks.proofs.Words.{◌≡◌, ◌+◌, ◌-◌, ◌≤◌, length, ap, sym, ◌∙◌, arith, lit<, remove, items, cut, before}
use Rattle.sorted_blocks.proofs.Cuts.{cut_one, cut_cut, length-cut}
use Rattle.sorted_blocks.proofs.Finding.{index_within}
use Rattle.sorted_blocks.proofs.Moves.{item_block, item_within, before_is}
use Rattle.sorted_blocks.proofs.Rests.{rest_long}
use Rattle.sorted_blocks.proofs.store.BlockStore.remove_in_block.Goals as goal

pub block_len-requires : goal.block_len-requires
block_len-requires g c = (lit< tt, item_block c.args.self.now c.args.place c.requires.item)

pub remove_within-requires : goal.remove_within-requires
remove_within-requires g c =
    (lit< tt, (c.requires.item, (omega (arith, item_within c.args.self.now c.args.place c.requires.item, rest_long c.args.self.now c.args.place, c.requires.within), omega (arith, c.if-count-block_len.true, c.block_len.ensures.len))))

pub remove_within-behind-requires : goal.remove_within-behind-requires
remove_within-behind-requires g c =
    let at = item_within c.args.self.now c.args.place c.requires.item in
    let long = rest_long c.args.self.now c.args.place in
    (lit< tt, (c.requires.item, (omega (arith, at, long, c.requires.within), omega (arith, at, long, c.block_len.ensures.len, c.if-count-block_len.false, c.block_len.ensures.some, c.requires.within))))

pub remove-gone-requires : goal.remove-gone-requires
remove-gone-requires g c =
    let s = c.args.self.now in
    let p = c.args.place in
    let at = item_within s p c.requires.item in
    let long = rest_long s p in
    let len = c.block_len.ensures.len in
    let most = c.if-count-block_len.false in
    let last = index_within s p.block (c.args.count - 1) (item_block s p c.requires.item) (omega (arith, at, long, len, most, c.block_len.ensures.some, c.requires.within)) in
    let within : before s p + (c.args.count - 1) ≤ length (items s) = omega (arith, last, before_is s p, at, long, len, most, c.requires.within) in
    (lit< tt, c.settled-last.ensures.item (omega (arith, length-cut (items s) (before s p) (c.args.count - 1) within, ap length c.remove_within-behind.ensures.items, last, before_is s p, at, long, len, most, c.requires.within, c.remove_within-behind.ensures.before)))

pub returns-clause-items : goal.returns-clause-items
returns-clause-items g c =
    let s = c.args.self.now in
    let p = c.args.place in
    let n = c.args.count in
    let i = before s p in
    let whole : n - 1 + 1 ≡ n = omega (arith, c.block_len.ensures.some, c.if-count-block_len.false) in
    let first = index_within s p.block p.at (item_block s p c.requires.item) (item_within s p c.requires.item) in
    let low : i ≤ length (items s) = omega (arith, first, before_is s p) in
    let there : before c.remove_within-behind.new.self c.settled-last.result ≡ i = c.settled-last.ensures.before ∙ c.remove_within-behind.ensures.before in
    c.remove-gone.ensures.items
    ∙ ap (remove (items c.remove_within-behind.new.self)) there
    ∙ ap (λ xs. remove xs i) c.remove_within-behind.ensures.items
    ∙ sym (cut_one (cut (items s) i (n - 1)) i)
    ∙ cut_cut (items s) i (n - 1) 1 low
    ∙ ap (cut (items s) i) whole
