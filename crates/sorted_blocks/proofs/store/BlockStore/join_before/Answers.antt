use Rattle.sorted_blocks.proofs.Moves.{is_place, merge_moves}
use Rattle.sorted_blocks.proofs.Words.{◌≡◌, ◌+◌, ◌-◌, length, subst, arith, IsDenseIn}
use Rattle.sorted_blocks.proofs.store.BlockStore.join_before.Goals.{then-place-eq0-via-then-place-eq0, then-place-eq0-via-else-place-eq0+then-not-are_short}
use Rattle.sorted_blocks.proofs.Dense.{not_short, dense-merge, dense-both, dense-longer}
use Rattle.sorted_blocks.proofs.store.BlockStore.join_before.Goals as goal

pub returns-then-place-eq0-clause-place : goal.returns-then-place-eq0-clause-place
returns-then-place-eq0-clause-place g c = is_place c.args.self.now c.args.place c.requires.block c.requires.at

pub returns-clause-items : goal.returns-clause-items
returns-clause-items g c =
    (merge_moves c.args.self.now c.merge.new.self c.args.place (c.args.place.block - 1) (omega (arith, c.if-place-eq0.false)) c.requires.block c.requires.at c.merge.ensures.blocks c.block_len-len.result c.block_len-len.ensures.len).same

pub returns-clause-place : goal.returns-clause-place
returns-clause-place g c =
    let moved = merge_moves c.args.self.now c.merge.new.self c.args.place (c.args.place.block - 1) (omega (arith, c.if-place-eq0.false)) c.requires.block c.requires.at c.merge.ensures.blocks c.block_len-len.result c.block_len-len.ensures.len in
    is_place c.merge.new.self (record { block = c.args.place.block - 1; at = c.block_len-len.result + c.args.place.at }) moved.block moved.at

pub returns-clause-before : goal.returns-clause-before
returns-clause-before g c =
    (merge_moves c.args.self.now c.merge.new.self c.args.place (c.args.place.block - 1) (omega (arith, c.if-place-eq0.false)) c.requires.block c.requires.at c.merge.ensures.blocks c.block_len-len.result c.block_len-len.ensures.len).stands

pub returns-then-place-eq0-clause-dense : goal.returns-then-place-eq0-clause-dense
returns-then-place-eq0-clause-dense g c d b = elim c.then-place-eq0.branch [
  | then-place-eq0-via-then-place-eq0 w ↦ subst (λ k. IsDenseIn g.row.HALF c.args.self.now.blocks k (length c.args.self.now.blocks)) w.if-place-eq0.true b
  | then-place-eq0-via-else-place-eq0+then-not-are_short w ↦
      let e : c.args.place.block ≡ c.args.place.block - 1 + 1 = omega (arith, w.if-place-eq0.false) in
      let e2 : c.args.place.block - 1 + 1 + 1 ≡ c.args.place.block + 1 = omega (arith, e) in
      let pair = not_short _ g.row.HALF (w.if-not-are_short.ensures {u = tt}).1 in
      let front = dense-longer g.row.HALF c.args.self.now.blocks 0 (c.args.place.block - 1) pair (subst (λ k. IsDenseIn g.row.HALF c.args.self.now.blocks 0 k) e d) in
      dense-both g.row.HALF c.args.self.now.blocks c.args.place.block (subst (λ k. IsDenseIn g.row.HALF c.args.self.now.blocks 0 k) e2 front) b
]

pub returns-clause-dense : goal.returns-clause-dense
returns-clause-dense g c d b =
    let e : c.args.place.block ≡ c.args.place.block - 1 + 1 = omega (arith, c.if-place-eq0.false) in
    rw c.merge.ensures.blocks (dense-merge g.row.HALF c.args.self.now.blocks (c.args.place.block - 1) (omega (arith, e, c.requires.block)) (subst (λ k. IsDenseIn g.row.HALF c.args.self.now.blocks 0 k) e d) (subst (λ k. IsDenseIn g.row.HALF c.args.self.now.blocks k (length c.args.self.now.blocks)) e b))
