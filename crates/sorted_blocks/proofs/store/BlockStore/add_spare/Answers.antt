use Rattle.sorted_blocks.proofs.Words.{rules, length, sym, ap, ◌∙◌, arith, firsts}
use Rattle.sorted_blocks.proofs.Firsts.{led_long}
use Rattle.sorted_blocks.proofs.store.BlockStore.add_spare.Goals as goal

pub invariant_of-self-2 : goal.invariant_of-self-2
invariant_of-self-2 g c =
    let long = led_long _ c.self.inside.used.items _ _ _ c.self.invariant.0.filled c.self.invariant.1 in
    let ok = (c.in_ok-reserve-2.ensures {u = tt}).ok in (
      search rules,
      record {
        row_is = c.reserve-2.ensures.items ∙ c.self.invariant.1.row_is ∙ ap firsts (sym c.reserve.ensures.items);
        row_room = omega (arith, long, ap length c.reserve.ensures.items, c.push_reserved.ensures.len, c.len-3.ensures, c.self.inside.firsts.ok.0, ok);
      },
    )
