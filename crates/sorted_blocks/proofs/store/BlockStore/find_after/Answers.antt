use Rattle.std.proofs.Common.{arith, lit<}
use Rattle.sorted_blocks.proofs.Finding.{found_start, row_left}
use Rattle.sorted_blocks.proofs.store.BlockStore.find_after.Goals as goal

pub returns-then-count-eq0 : goal.returns-then-count-eq0
returns-then-count-eq0 g c = found_start (g.P.Probe.order c.args.probe.now) c.args.self.now (rw c.if-count-eq0.true at c.requires.gap)

pub find_in-requires : goal.find_in-requires
find_in-requires g c = (lit< tt, (c.requires.can, row_left (g.P.Probe.order c.args.probe.now) c.args.self.now.blocks c.args.count c.requires.gap (omega (arith, c.if-count-eq0.false))))
