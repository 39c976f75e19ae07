use Rattle.sorted_blocks.proofs.Words.{◌<◌, length, sym, subst, arith, lit<, spliced, block_at, IsDense}
use Rattle.sorted_blocks.proofs.Splices.{length-spliced}
use Rattle.sorted_blocks.proofs.Moves.{at_most, spliced_items, spliced_place, spliced_before}
use Rattle.sorted_blocks.proofs.Dense.{dense-set}
use Rattle.sorted_blocks.proofs.store.BlockStore.insert_in_block.Goals as goal

pub put_all-requires : goal.put_all-requires
put_all-requires g c =
    let s = c.args.self.now in
    let h : c.args.place.block < length s.blocks = omega (arith, c.block_count.ensures.count, c.if-place-block_count.false) in
    (lit< tt, (h, (at_most s c.args.place c.requires, omega (arith, c.block_len-len.ensures.len, c.block_len-len.ensures.most, c.if-count-room.false))))

pub overflow_add-result : goal.overflow_add-result
overflow_add-result g c =
    omega (arith, at_most c.args.self.now c.args.place c.requires, c.block_len-len.ensures.len, c.block_len-len.ensures.most, c.block_len-len.ensures.small, c.if-count-room.false)

pub returns-clause-some : goal.returns-clause-some
returns-clause-some g c =
    let s = c.args.self.now in
    let t = c.put_all.new.self in
    let p = c.args.place in
    let run = c.args.run.now in
    let h : p.block < length s.blocks = omega (arith, c.block_count.ensures.count, c.if-place-block_count.false) in
    let at = at_most s p c.requires in
    let e = c.put_all.ensures.blocks in
    (spliced_items s t p run h at e, spliced_place s t p run h at e, spliced_before s t p run e)

pub returns-clause-dense : goal.returns-clause-dense
returns-clause-dense g c d =
    let s = c.args.self.now in
    let p = c.args.place in
    let h : p.block < length s.blocks = omega (arith, c.block_count.ensures.count, c.if-place-block_count.false) in
    let row = block_at s.blocks p.block in
    subst (λ bs. IsDense g.row.HALF bs) (sym c.put_all.ensures.blocks)
    (dense-set g.row.HALF s.blocks p.block (spliced row p.at c.args.run.now) h (omega (arith, length-spliced row p.at c.args.run.now (at_most s p c.requires))) d)

pub returns-then-place-block_count-clause-room : goal.returns-then-place-block_count-clause-room
returns-then-place-block_count-clause-room g c room =
    absurd (omega (arith, c.block_count.ensures.count, c.if-place-block_count.true, room.0))

pub returns-then-count-room-clause-room : goal.returns-then-count-room-clause-room
returns-then-count-room-clause-room g c room =
    absurd (omega (arith, c.block_len-len.ensures.len, c.block_len-len.ensures.most, c.if-count-room.true, room.1))
