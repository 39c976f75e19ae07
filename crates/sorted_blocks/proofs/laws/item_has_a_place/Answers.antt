use Rattle.std.proofs.Common.{arith}
use Rattle.sorted_blocks.proofs.Finding.{index_within}
use Rattle.sorted_blocks.proofs.Moves.{is_place, item_block, item_within, before_is}
use Rattle.sorted_blocks.proofs.laws.item_has_a_place.Goals as goal

pub returns : goal.returns
returns g c s p h =
    let block = item_block s p h in
    let at = item_within s p h in
    (is_place s p block (omega (arith, at)), omega (arith, before_is s p, index_within s p.block p.at block at))
