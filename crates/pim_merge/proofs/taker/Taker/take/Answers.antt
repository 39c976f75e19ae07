use Rattle.pim_merge.proofs.taker.Taker.take.Goals as goal

pub returns-in-Skipped-clause-payload : goal.returns-in-Skipped-clause-payload
returns-in-Skipped-clause-payload c = c.skip.ensures.payload c.args.buffer.now.items
