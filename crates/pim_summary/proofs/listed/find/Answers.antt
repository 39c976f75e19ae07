use Rattle.pim_summary.proofs.Ordered.{is_there, is_past}
use Rattle.pim_summary.proofs.listed.find.Goals as goal

pub returns-then-at-items-clause-there : goal.returns-then-at-items-clause-there
returns-then-at-items-clause-there g c = is_there g.T.Listed.key c.args.address c.args.items.now
    c.place_of-at.result _ _ _
    c.place_of-at.ensures.place c.if-at-items.true c.index-items-at.is (rw c.key.ensures at
    c.is_same-is_there.ensures)

pub returns-else-at-items-clause-there : goal.returns-else-at-items-clause-there
returns-else-at-items-clause-there g c =
    is_past g.T.Listed.key c.args.address c.args.items.now c.place_of-at.result
    c.place_of-at.ensures.place c.if-at-items.false
