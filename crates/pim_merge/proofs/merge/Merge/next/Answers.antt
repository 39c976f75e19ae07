use Rattle.pim_merge.proofs.Until.{without_time}
use Rattle.pim_merge.proofs.merge.Merge.next.Goals as goal

pub returns-clause-turn : goal.returns-clause-turn
returns-clause-turn g c captures coming = without_time c.args.self.now.clock captures c.next_by.result c.next_by.new.self (c.next_by.ensures.turn captures coming)
