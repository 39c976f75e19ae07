use Rattle.sorted_blocks.proofs.Words.{◌<◌, [], length, ap, arith, get_or_read, Shape}
use Rattle.sorted_blocks.proofs.Counted.{filled-get}
use Rattle.sorted_blocks.proofs.store.BlockStore.block_len.Goals as goal

pub returns-clause-some : goal.returns-clause-some
returns-clause-some g c =
    let bs = c.self.inside.used.items in
    let h : c.args.block < length bs = rw (ap (λ (s : Shape g.row.T.Denot). s.blocks) c.self.view_is) c.requires in
    let r = ap length (get_or_read bs c.args.block c.index.result.now h c.index.ensures []) in
    omega (arith, (filled-get _ bs c.args.block c.self.invariant.0.filled h).0, r, c.len.ensures.len)
