use Rattle.sorted_blocks.proofs.Finding.{each_row, found_equal, found_gap}
use Rattle.sorted_blocks.proofs.store.BlockStore.find_in.Goals as goal

pub seek-requires-clause-can : goal.seek-requires-clause-can
seek-requires-clause-can g c = rw c.row-row.ensures (each_row (g.P.Probe.can_compare c.args.probe.now) c.args.self.now c.args.block c.requires.can c.requires.row.within)

pub returns-in-Ok : goal.returns-in-Ok
returns-in-Ok g c =
    let found = rw c.row-row.ensures at c.in-Ok.ensures in
    found_equal (g.P.Probe.order c.args.probe.now) c.args.self.now (record { block = c.args.block; at = c.in-Ok.at }) c.requires.row.within found.within found.equal

pub returns-in-Err : goal.returns-in-Err
returns-in-Err g c =
    let gap = rw c.row-row.ensures at c.in-Err.ensures in
    found_gap (g.P.Probe.order c.args.probe.now) c.args.self.now (record { block = c.args.block; at = c.in-Err.at }) c.args.low c.requires.row gap.0 gap.1 gap.2
