use Rattle.std.proofs.Common.{sym, ◌∙◌}
use Rattle.pim_merge.proofs.Lengths.{of_none}
use Rattle.pim_merge.proofs.lane.Lane.look.Goals as goal

pub invariant_of-self : goal.invariant_of-self
invariant_of-self g c =
    let none = sym c.is_some.ensures ∙ c.if-is_some.false in
    (c.next.ensures.length, of_none _ _ none, of_none _ _ none)

pub invariant_of-self-2 : goal.invariant_of-self-2
invariant_of-self-2 g c = (c.next.ensures.length, c.in_ok-event.ensures.payload, c.in_ok-event.ensures.moment)
