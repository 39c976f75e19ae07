use Rattle.sorted_blocks.proofs.Words.{refl, arith, firsts, AllFilled}
use Rattle.sorted_blocks.proofs.store.BlockStore.new.Goals as goal

pub invariant_of-result : goal.invariant_of-result
unfolding firsts AllFilled
invariant_of-result g c = rw (c.new.ensures.items, c.new-2.ensures.items) (
  record {
    half_some = c.requires.some;
    half_small = c.requires.small;
    filled = tt;
    used_room = omega (arith, c.new-3.ensures.len);
    spare_room = omega (arith, c.new-3.ensures.len);
    few = omega (arith, c.new-3.ensures.len);
    count_is = refl;
  },
  record { row_is = refl; row_room = omega (arith, c.new-3.ensures.len) },
)
