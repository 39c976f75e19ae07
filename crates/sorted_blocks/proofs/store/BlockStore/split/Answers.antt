use Rattle.sorted_blocks.proofs.Words.{◌≡◌, ◌+◌, ◌<◌, length, length-drop, set, sym, ap, ◌∙◌, arith, length-set, length-take-le, true≢false, Shape}
use Rattle.sorted_blocks.proofs.Counted.{filled-set}
use Rattle.sorted_blocks.proofs.Firsts.{led_set, led_insert, led_long, led_within}
use Rattle.sorted_blocks.proofs.Kept.{opened, kept_split}
use Rattle.sorted_blocks.proofs.store.BlockStore.split.Goals as goal

pub invariant_of-self : goal.invariant_of-self
invariant_of-self g c =
    let row = c.index_mut-row.result.now in
    let held = opened _ _ _ c.args.block row c.self.invariant.0.filled (ap (λ (s : Shape g.row.T.Denot). s.blocks) c.self.view_is) c.requires.block c.index_mut-row.ensures.value in
    let full : length row ≡ g.row.HALF + g.row.HALF = rw held.1 c.requires.full in
    let half = c.self.invariant.0.half_some in
    let front_long : length c.split_into.new.self ≡ g.row.HALF = ap length c.split_into.ensures.front ∙ length-take-le g.row.HALF row (omega (arith, full)) in
    let back_long : length c.split_into.new.other ≡ g.row.HALF = ap length c.split_into.ensures.back ∙ length-drop g.row.HALF row ∙ omega (arith, full) in
    let front = led_set _ _ _ _ _ c.self.invariant.0.filled c.self.invariant.1 c.args.block c.split_into.new.self c.get.result.now held.0 (omega (arith, front_long, half)) c.get.ensures in
    let filled = filled-set _ _ c.args.block c.split_into.new.self c.self.invariant.0.filled (omega (arith, front_long, half)) (omega (arith, front_long)) in
    let row_is = rw (c.is_err.ensures.negation, c.if-is_err.false) at c.insert.ensures.items in
    let put = rw (c.is_err-2.ensures.negation, c.if-is_err-2.false) at c.insert-2.ensures.items in
    rw (put, row_is) (kept_split _ _ _ _ _ _ c.self.invariant.0 c.args.block row _ _ held.0 c.index_mut-row.ensures.value full c.split_into.ensures.front c.split_into.ensures.back _ _ _ c.take_last-fresh.ensures.len c.insert-2.ensures.capacity (omega (arith, c.take_last-fresh.ensures.capacity)), led_insert _ (set _ c.args.block c.split_into.new.self) _ _ _ filled front (c.args.block + 1) c.split_into.new.other c.get-first.result.now (omega (arith, held.0, length-set c.self.inside.used.items c.args.block c.split_into.new.self)) (omega (arith, back_long, half)) c.get-first.ensures _ _ c.take_last-fresh.ensures.len c.insert.ensures.capacity)

pub index_mut-requires : goal.index_mut-requires
index_mut-requires g c =
    omega (arith, c.self.inside.firsts.ok.0, led_within _ _ _ _ _ _ c.args.block c.self.invariant.0.filled c.self.invariant.1 (ap (λ (s : Shape g.row.T.Denot). s.blocks) c.self.view_is) c.requires.block)

pub insert-requires : goal.insert-requires
insert-requires g c =
    omega (arith, c.self.inside.firsts.ok.0, led_within _ _ _ _ _ _ c.args.block c.self.invariant.0.filled c.self.invariant.1 (ap (λ (s : Shape g.row.T.Denot). s.blocks) c.self.view_is) c.requires.block)

pub unreachable-requires : goal.unreachable-requires
unreachable-requires g c =
    let long = led_long _ c.self.inside.used.items _ _ _ c.self.invariant.0.filled c.self.invariant.1 in
    let less : c.self.inside.firsts.len < c.self.inside.firsts.cap = omega (arith, (ap (λ (s : Shape g.row.T.Denot). s.spare) c.self.view_is), long, c.requires.spare, c.self.inside.firsts.ok.0, c.self.invariant.1.row_room) in
    true≢false (sym (c.insert.ensures.succeeds less) ∙ ((c.if-is_err.ensures {u = tt}).negation))
