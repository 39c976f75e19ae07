use Rattle.std.proofs.Common.{◌≡◌, length, arith}
use Rattle.sorted_blocks.proofs.Cuts.{cut_closed}
use Rattle.sorted_blocks.proofs.block.cut_out.Goals as goal

pub returns-clause-items : goal.returns-clause-items
returns-clause-items g c =
    let xs = c.args.items.now.items in
    let long : length xs ≡ c.args.items.now.len = omega (arith, c.args.items.now.ok.0) in
    rw (c.truncate.ensures.items, c.copy_within.ensures.items, c.len-len.ensures) (cut_closed c.args.at c.args.count c.args.items.now.len xs long c.requires)
