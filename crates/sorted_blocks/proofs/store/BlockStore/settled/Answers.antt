use Rattle.std.proofs.Common.{◌+◌, arith}
use Rattle.sorted_blocks.proofs.Moves.{at_most, place_block, is_item, is_place, last_item, next_start}
use Rattle.sorted_blocks.proofs.store.BlockStore.settled.Goals as goal

pub overflow_add-place : goal.overflow_add-place
overflow_add-place g c =
    omega (arith, place_block c.args.self.now c.args.place c.requires, c.block_count-count.ensures.count, c.block_count-count.ensures.few)

pub returns-then-place-count-clause-item : goal.returns-then-place-count-clause-item
returns-then-place-count-clause-item g c h = last_item c.args.self.now c.args.place c.requires (omega (arith, c.block_count-count.ensures.count, c.if-place-count.true)) h

pub returns-clause-place : goal.returns-clause-place
returns-clause-place g c = is_place c.args.self.now (record { block = c.args.place.block + 1; at = 0 }) (omega (arith, c.block_count-count.ensures.count, c.if-place-count.false)) (omega arith)

pub returns-clause-before : goal.returns-clause-before
returns-clause-before g c =
    next_start c.args.self.now c.args.place (omega (arith, c.block_count-count.ensures.count, c.if-place-count.false)) (omega (arith, at_most c.args.self.now c.args.place c.requires, c.if-place-block_len.false, c.block_len.ensures.len))

pub returns-clause-item : goal.returns-clause-item
returns-clause-item g c h = is_item c.args.self.now (record { block = c.args.place.block + 1; at = 0 }) (omega (arith, c.block_count-count.ensures.count, c.if-place-count.false)) (omega (arith, c.block_len-behind.ensures.len, c.block_len-behind.ensures.some))

pub returns-then-place-block_len-clause-item : goal.returns-then-place-block_len-clause-item
returns-then-place-block_len-clause-item g c h = is_item c.args.self.now c.args.place (omega (arith, c.block_count-count.ensures.count, c.if-place-count.false)) (omega (arith, c.block_len.ensures.len, c.if-place-block_len.true))
