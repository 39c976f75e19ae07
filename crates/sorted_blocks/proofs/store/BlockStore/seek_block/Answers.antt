use Rattle.sorted_blocks.proofs.Finding.{can_firsts}
use Rattle.sorted_blocks.proofs.store.BlockStore.seek_block.Goals as goal

pub seek-requires-clause-can : goal.seek-requires-clause-can
seek-requires-clause-can g c = can_firsts (g.P.Probe.can_compare c.args.probe.now) c.args.self.now c.firsts-firsts.result.now c.requires c.firsts-firsts.ensures
