use Rattle.sorted_blocks.proofs.Words.{◌+◌, ◌<◌, ◌≤◌, [], length, length-append, ap, ◌∙◌, arith, remove, get_or_read, length-remove, get_or-remove_below, Shape}
use Rattle.sorted_blocks.proofs.Counted.{filled-get, filled-remove}
use Rattle.sorted_blocks.proofs.Firsts.{led_set, led_remove, led_within}
use Rattle.sorted_blocks.proofs.Kept.{opened, kept_merge}
use Rattle.sorted_blocks.proofs.store.BlockStore.merge.Goals as goal

pub invariant_of-self : goal.invariant_of-self
invariant_of-self g c =
    let bs = c.self.inside.used.items in
    let front = c.index_mut-row.result.now in
    let back = c.remove-behind.result in
    let e = ap (λ (s : Shape g.row.T.Denot). s.blocks) c.self.view_is in
    let h : c.args.block + 1 < length bs = rw e c.requires.block in
    let within : c.args.block < length (remove bs (c.args.block + 1)) = omega (arith, length-remove bs (c.args.block + 1) h, h) in
    let items = c.remove-behind.ensures.items in
    let at = rw items at c.index_mut-row.ensures.value in
    let is_back = get_or_read bs (c.args.block + 1) back h c.remove-behind.ensures.value [] in
    let is_front = get_or_read (remove bs (c.args.block + 1)) c.args.block front within at [] ∙ get_or-remove_below bs (c.args.block + 1) [] c.args.block (omega arith) h in
    let few : length front + length back ≤ g.row.HALF = rw (is_front, is_back, e) c.requires.few in
    let some = (filled-get _ bs (c.args.block + 1) c.self.invariant.0.filled h).0 in
    let led = led_remove _ bs _ _ _ c.self.invariant.0.filled c.self.invariant.1 (c.args.block + 1) h _ _ c.push_reserved.ensures.len (omega (arith, c.remove-first.ensures.capacity)) in
    let filled = filled-remove _ bs (c.args.block + 1) c.self.invariant.0.filled h in
    rw (items, c.remove-first.ensures.items) (kept_merge _ bs _ _ _ _ c.self.invariant.0 c.args.block front back _ h at c.remove-behind.ensures.value few c.absorb.ensures _ _ _ c.push_reserved.ensures.len (omega (arith, c.remove-behind.ensures.capacity)) (omega (arith, c.push_reserved.ensures.capacity)), led_set _ (remove bs (c.args.block + 1)) _ _ _ filled led c.args.block c.absorb.new.self c.get.result.now within (omega (arith, (ap length c.absorb.ensures ∙ length-append front back), ap length is_back, some)) c.get.ensures)

pub remove-first-requires : goal.remove-first-requires
remove-first-requires g c =
    omega (arith, c.self.inside.firsts.ok.0, led_within _ _ _ _ _ _ (c.args.block + 1) c.self.invariant.0.filled c.self.invariant.1 (ap (λ (s : Shape g.row.T.Denot). s.blocks) c.self.view_is) c.requires.block)

pub get-requires : goal.get-requires
get-requires g c =
    let back = c.remove-behind.result in
    let held = opened _ _ _ (c.args.block + 1) back c.self.invariant.0.filled (ap (λ (s : Shape g.row.T.Denot). s.blocks) c.self.view_is) c.requires.block c.remove-behind.ensures.value in
    let long = ap length c.absorb.ensures ∙ length-append c.index_mut-row.result.now back in
    omega (arith, long, held.2)
