use Rattle.std.proofs.Common.{sym, ap, ◌∙◌, drop, length, arith}
use Rattle.sorted_blocks.proofs.Moves.{item_within}
use Rattle.sorted_blocks.proofs.Rests.{rest_is, rest_none, row_is, row_some}
use Rattle.sorted_blocks.proofs.store.BlockStore.row_from.Goals as goal

pub returns-then-place-block_count-clause-rest : goal.returns-then-place-block_count-clause-rest
returns-then-place-block_count-clause-rest g c = rest_none c.args.self.now c.args.place (omega (arith, c.if-place-block_count.true, c.block_count.ensures.count))

pub returns-then-place-block_count-clause-row : goal.returns-then-place-block_count-clause-row
returns-then-place-block_count-clause-row g c h = row_is c.args.self.now c.args.place _ (rest_none c.args.self.now c.args.place (omega (arith, c.if-place-block_count.true, c.block_count.ensures.count))) h

pub returns-then-place-block_count-clause-some : goal.returns-then-place-block_count-clause-some
returns-then-place-block_count-clause-some g c h = row_some c.args.self.now c.args.place _ (rest_none c.args.self.now c.args.place (omega (arith, c.if-place-block_count.true, c.block_count.ensures.count))) h

pub returns-then-place-row-clause-some : goal.returns-then-place-row-clause-some
returns-then-place-row-clause-some g c h = absurd (omega (arith, item_within c.args.self.now c.args.place h, ap length c.row-row.ensures, c.if-place-row.true))

pub returns-clause-rest : goal.returns-clause-rest
returns-clause-rest g c = c.split_at.ensures.back ∙ ap (drop c.args.place.at) c.row-row.ensures ∙ sym (rest_is c.args.self.now c.args.place)

pub returns-clause-row : goal.returns-clause-row
returns-clause-row g c h = row_is c.args.self.now c.args.place _ (c.split_at.ensures.back ∙ ap (drop c.args.place.at) c.row-row.ensures ∙ sym (rest_is c.args.self.now c.args.place)) h
