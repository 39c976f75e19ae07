use Rattle.sorted_blocks.proofs.Words.{◌+◌, ◌<◌, ◌≤◌, length, ap, ◌∙◌, arith, lit<, Shape}
use Rattle.sorted_blocks.proofs.Cuts.{length-cut}
use Rattle.sorted_blocks.proofs.Kept.{opened, kept_set, count_covers}
use Rattle.sorted_blocks.proofs.Firsts.{led_set, led_within}
use Rattle.sorted_blocks.proofs.store.BlockStore.cut_out.Goals as goal

pub get-requires : goal.get-requires
get-requires g c =
    let row = c.index_mut-row.result.now in
    let held = opened _ _ _ c.args.block row c.self.invariant.0.filled (ap (λ (s : Shape g.row.T.Denot). s.blocks) c.self.view_is) c.requires.block c.index_mut-row.ensures.value in
    let within : c.args.at + c.args.count ≤ length row = rw held.1 c.requires.within in
    let others : c.args.count < length row = rw held.1 c.requires.others in
    let shorter = ap (λ xs. length xs + c.args.count) c.cut_out.ensures ∙ length-cut row c.args.at c.args.count within in
    (lit< tt, omega (arith, shorter, others))

pub overflow_sub-self : goal.overflow_sub-self
overflow_sub-self g c =
    let row = c.index_mut-row.result.now in
    let held = opened _ _ _ c.args.block row c.self.invariant.0.filled (ap (λ (s : Shape g.row.T.Denot). s.blocks) c.self.view_is) c.requires.block c.index_mut-row.ensures.value in
    let others : c.args.count < length row = rw held.1 c.requires.others in
    let covers = count_covers _ _ _ _ _ _ c.self.invariant.0 c.args.block row held.0 c.index_mut-row.ensures.value in
    omega (arith, covers, others)

pub index_mut-requires : goal.index_mut-requires
index_mut-requires g c =
    omega (arith, c.self.inside.firsts.ok.0, led_within _ _ _ _ _ _ c.args.block c.self.invariant.0.filled c.self.invariant.1 (ap (λ (s : Shape g.row.T.Denot). s.blocks) c.self.view_is) c.requires.block)

pub invariant_of-self : goal.invariant_of-self
invariant_of-self g c =
    let row = c.index_mut-row.result.now in
    let held = opened _ _ _ c.args.block row c.self.invariant.0.filled (ap (λ (s : Shape g.row.T.Denot). s.blocks) c.self.view_is) c.requires.block c.index_mut-row.ensures.value in
    let within : c.args.at + c.args.count ≤ length row = rw held.1 c.requires.within in
    let others : c.args.count < length row = rw held.1 c.requires.others in
    let shorter = ap (λ xs. length xs + c.args.count) c.cut_out.ensures ∙ length-cut row c.args.at c.args.count within in
    let count = count_covers _ _ _ _ _ _ c.self.invariant.0 c.args.block row held.0 c.index_mut-row.ensures.value in
    (kept_set _ _ _ _ _ _ c.self.invariant.0 c.args.block row c.cut_out.new.self held.0 c.index_mut-row.ensures.value (omega (arith, shorter, others)) (omega (arith, shorter, held.3)) _ (omega (arith, shorter, count, others)), led_set _ _ _ _ _ c.self.invariant.0.filled c.self.invariant.1 c.args.block c.cut_out.new.self c.get.result.now held.0 (omega (arith, shorter, others)) c.get.ensures)
