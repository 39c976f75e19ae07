use Rattle.std.proofs.Common.{◌∙◌, ap, length, arith}
use Rattle.sorted_blocks.proofs.Moves.{same_place, same_item, same_before}
use Rattle.sorted_blocks.proofs.Capacity.{capacity_more}
use Rattle.sorted_blocks.proofs.store.BlockStore.reserve_capacity.Goals as goal

pub loop-self-preserved : goal.loop-self-preserved
loop-self-preserved g c = (c.add_spare.ensures.blocks ∙ c.loop-self.invariant.0, omega (arith, c.loop-self.invariant.1, capacity_more g.row.HALF c.loop-self.self c.add_spare.new.self (omega (arith, ap length c.add_spare.ensures.blocks, c.add_spare.ensures.never_less))))

pub returns-in_err-add_spare-clause-places : goal.returns-in_err-add_spare-clause-places
returns-in_err-add_spare-clause-places g c = same_place c.args.self.now c.add_spare.new.self (c.add_spare.ensures.blocks ∙ c.loop-self.invariant.0)

pub returns-in_err-add_spare-clause-is_items : goal.returns-in_err-add_spare-clause-is_items
returns-in_err-add_spare-clause-is_items g c = same_item c.args.self.now c.add_spare.new.self (c.add_spare.ensures.blocks ∙ c.loop-self.invariant.0)

pub returns-in_err-add_spare-clause-before : goal.returns-in_err-add_spare-clause-before
returns-in_err-add_spare-clause-before g c = same_before c.args.self.now c.add_spare.new.self (c.add_spare.ensures.blocks ∙ c.loop-self.invariant.0)

pub returns-clause-places : goal.returns-clause-places
returns-clause-places g c = same_place c.args.self.now c.loop-self.self c.loop-self.invariant.0

pub returns-clause-is_items : goal.returns-clause-is_items
returns-clause-is_items g c = same_item c.args.self.now c.loop-self.self c.loop-self.invariant.0

pub returns-clause-before : goal.returns-clause-before
returns-clause-before g c = same_before c.args.self.now c.loop-self.self c.loop-self.invariant.0
