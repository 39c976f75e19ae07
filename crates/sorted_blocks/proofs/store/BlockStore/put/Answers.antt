use Rattle.sorted_blocks.proofs.Words.{◌+◌, ◌<◌, ◌≤◌, length, ap, ◌∙◌, arith, length-insert, Shape}
use Rattle.sorted_blocks.proofs.Kept.{opened, kept_set, count_small}
use Rattle.sorted_blocks.proofs.Firsts.{led_set, led_within}
use Rattle.sorted_blocks.proofs.store.BlockStore.put.Goals as goal

pub overflow_add-self : goal.overflow_add-self
overflow_add-self g c =
    omega (arith, count_small _ _ _ _ _ _ c.self.invariant.0)

pub invariant_of-self : goal.invariant_of-self
invariant_of-self g c =
    let row = c.index_mut-row.result.now in
    let held = opened _ _ _ c.args.block row c.self.invariant.0.filled (ap (λ (s : Shape g.row.T.Denot). s.blocks) c.self.view_is) c.requires.block c.index_mut-row.ensures.value in
    let at : c.args.at ≤ length row = rw held.1 c.requires.at in
    let fits : length row < g.row.HALF + g.row.HALF = rw held.1 c.requires.not_full in
    let longer = ap length c.put.ensures ∙ length-insert row c.args.at c.args.item at in
    (kept_set _ _ _ _ _ _ c.self.invariant.0 c.args.block row c.put.new.self held.0 c.index_mut-row.ensures.value (omega (arith, longer)) (omega (arith, longer, fits)) _ (omega (arith, longer)), led_set _ _ _ _ _ c.self.invariant.0.filled c.self.invariant.1 c.args.block c.put.new.self c.get.result.now held.0 (omega (arith, longer)) c.get.ensures)

pub index_mut-requires : goal.index_mut-requires
index_mut-requires g c =
    omega (arith, c.self.inside.firsts.ok.0, led_within _ _ _ _ _ _ c.args.block c.self.invariant.0.filled c.self.invariant.1 (ap (λ (s : Shape g.row.T.Denot). s.blocks) c.self.view_is) c.requires.block)
