use Rattle.sorted_blocks.proofs.Finding.{found_equal}
use Rattle.sorted_blocks.proofs.store.BlockStore.find.Goals as goal

pub returns-in-Ok : goal.returns-in-Ok
returns-in-Ok g c =
    let found = c.in-Ok.ensures in
    found_equal (g.P.Probe.order c.args.probe.now) c.args.self.now (record { block = c.in-Ok.block; at = 0 }) found.within found.some found.equal
