use Rattle.sorted_blocks.proofs.Words.{◌+◌, ◌≤◌, length, ap, ◌∙◌, arith, lit<, Shape}
use Rattle.sorted_blocks.proofs.Kept.{opened, kept_set, count_small}
use Rattle.sorted_blocks.proofs.Firsts.{led_set, led_within}
use Rattle.sorted_blocks.proofs.Splices.{length-spliced}
use Rattle.sorted_blocks.proofs.store.BlockStore.put_all.Goals as goal

pub get-requires : goal.get-requires
get-requires g c =
    let row = c.index_mut-row.result.now in
    let held = opened _ _ _ c.args.block row c.self.invariant.0.filled (ap (λ (s : Shape g.row.T.Denot). s.blocks) c.self.view_is) c.requires.block c.index_mut-row.ensures.value in
    let at : c.args.at ≤ length row = rw held.1 c.requires.at in
    let longer = ap length c.put_all.ensures ∙ length-spliced row c.args.at c.args.run.now at in
    (lit< tt, omega (arith, longer, held.2))

pub overflow_add-self : goal.overflow_add-self
overflow_add-self g c =
    omega (arith, count_small _ _ _ _ _ _ c.self.invariant.0, c.requires.room, c.self.invariant.0.half_small)

pub index_mut-requires : goal.index_mut-requires
index_mut-requires g c =
    omega (arith, c.self.inside.firsts.ok.0, led_within _ _ _ _ _ _ c.args.block c.self.invariant.0.filled c.self.invariant.1 (ap (λ (s : Shape g.row.T.Denot). s.blocks) c.self.view_is) c.requires.block)

pub invariant_of-self : goal.invariant_of-self
invariant_of-self g c =
    let row = c.index_mut-row.result.now in
    let held = opened _ _ _ c.args.block row c.self.invariant.0.filled (ap (λ (s : Shape g.row.T.Denot). s.blocks) c.self.view_is) c.requires.block c.index_mut-row.ensures.value in
    let at : c.args.at ≤ length row = rw held.1 c.requires.at in
    let fits : length row + length c.args.run.now ≤ g.row.HALF + g.row.HALF = rw held.1 c.requires.room in
    let some = held.2 in
    let longer = ap length c.put_all.ensures ∙ length-spliced row c.args.at c.args.run.now at in
    (kept_set _ _ _ _ _ _ c.self.invariant.0 c.args.block row c.put_all.new.self held.0 c.index_mut-row.ensures.value (omega (arith, longer, some)) (omega (arith, longer, fits)) _ (omega (arith, longer)), led_set _ _ _ _ _ c.self.invariant.0.filled c.self.invariant.1 c.args.block c.put_all.new.self c.get.result.now held.0 (omega (arith, longer, some)) c.get.ensures)
