use Rattle.sorted_blocks.proofs.Words.{◌≡◌, length, ap, arith, Shape}
use Rattle.sorted_blocks.proofs.Kept.{opened, kept_remove, count_covers}
use Rattle.sorted_blocks.proofs.Firsts.{led_remove, led_within}
use Rattle.sorted_blocks.proofs.store.BlockStore.take_whole.Goals as goal

pub overflow_sub-self : goal.overflow_sub-self
overflow_sub-self g c =
    let row = c.remove-row.result in
    let held = opened _ _ _ c.args.block row c.self.invariant.0.filled (ap (λ (s : Shape g.row.T.Denot). s.blocks) c.self.view_is) c.requires.block c.remove-row.ensures.value in
    let alone : length row ≡ 1 = rw held.1 c.requires.alone in
    let covers = count_covers _ _ _ _ _ _ c.self.invariant.0 c.args.block row held.0 c.remove-row.ensures.value in
    omega (arith, covers, alone)

pub invariant_of-self : goal.invariant_of-self
invariant_of-self g c =
    let row = c.remove-row.result in
    let held = opened _ _ _ c.args.block row c.self.invariant.0.filled (ap (λ (s : Shape g.row.T.Denot). s.blocks) c.self.view_is) c.requires.block c.remove-row.ensures.value in
    let alone : length row ≡ 1 = rw held.1 c.requires.alone in
    let count = count_covers _ _ _ _ _ _ c.self.invariant.0 c.args.block row held.0 c.remove-row.ensures.value in
    rw (c.remove-row.ensures.items, c.remove-first.ensures.items) (kept_remove _ _ _ _ _ _ c.self.invariant.0 c.args.block row held.0 c.remove-row.ensures.value _ _ _ _ c.push_reserved.ensures.len (omega (arith, c.remove-row.ensures.capacity)) (omega (arith, c.push_reserved.ensures.capacity)) (omega (arith, alone, count)), led_remove _ _ _ _ _ c.self.invariant.0.filled c.self.invariant.1 c.args.block held.0 _ _ c.push_reserved.ensures.len (omega (arith, c.remove-first.ensures.capacity)))

pub remove-first-requires : goal.remove-first-requires
remove-first-requires g c =
    omega (arith, c.self.inside.firsts.ok.0, led_within _ _ _ _ _ _ c.args.block c.self.invariant.0.filled c.self.invariant.1 (ap (λ (s : Shape g.row.T.Denot). s.blocks) c.self.view_is) c.requires.block)
