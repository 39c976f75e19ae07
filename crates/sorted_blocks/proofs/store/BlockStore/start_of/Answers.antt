use Rattle.std.proofs.Common.{◌≡◌, suc, ◌-◌, ap, arith}
use Rattle.sorted_blocks.proofs.Moves.{is_place, is_start, before_is}
use Rattle.sorted_blocks.proofs.Joined.{start, start-suc}
use Rattle.sorted_blocks.proofs.store.BlockStore.start_of.Goals as goal
use Rattle.sorted_blocks.proofs.store.BlockStore.start_of.Goals.{then-block-block_count-via-then-block-block_count, then-block-block_count-via-else-block-block_count+then-block-eq0}

pub returns-then-block-block_count-clause-place : goal.returns-then-block-block_count-clause-place
returns-then-block-block_count-clause-place g c =
    elim c.then-block-block_count.branch [
      | then-block-block_count-via-then-block-block_count w ↦ is_place c.args.self.now (record { block = c.args.block; at = 0 }) (omega (arith, w.if-block-block_count.true, c.block_count.ensures.count)) (omega arith)
      | then-block-block_count-via-else-block-block_count+then-block-eq0 w ↦ rw w.if-block-eq0.true (is_start c.args.self.now)
    ]

pub returns-clause-place : goal.returns-clause-place
returns-clause-place g c = is_place c.args.self.now (record { block = c.args.block - 1; at = c.block_len.result }) (omega (arith, c.requires, c.if-block-eq0.false)) (omega (arith, c.block_len.ensures.len))

pub returns-clause-before : goal.returns-clause-before
returns-clause-before g c =
    let bs = c.args.self.now.blocks in
    let n = start-suc bs (c.args.block - 1) (omega (arith, c.requires, c.if-block-eq0.false)) in
    let is : suc (c.args.block - 1) ≡ c.args.block = omega (arith, c.if-block-eq0.false) in
    omega (arith, n, (ap (λ i. start bs i) is), c.block_len.ensures.len, before_is c.args.self.now (record { block = c.args.block - 1; at = c.block_len.result }), before_is c.args.self.now (record { block = c.args.block; at = 0 }))
