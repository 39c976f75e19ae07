use Rattle.std.proofs.Common.{◌≡◌, length, drop, sym, ap, ◌∙◌, arith}
use Rattle.sorted_blocks.proofs.Walking.{never_empty}
use Rattle.sorted_blocks.proofs.items.ItemsIterator.next.Goals as goal

pub returns-in_err-item-clause-steps : goal.returns-in_err-item-clause-steps
returns-in_err-item-clause-steps g c =
    let none : length c.split_at.result.1.now ≡ 0 = (c.in_err-item.ensures {u = tt}).cases in
    let row = c.split_at.ensures.back ∙ ap (drop c.opened.inside.start) c.as_slice.ensures.value ∙ c.opened.view_is in
    absurd (never_empty g.row.HALF c.self.inside.all_blocks.now c.self.inside.next_block c.index-self-block.result c.self.invariant (omega (arith, c.if-block-self.false)) c.index-self-block.is (ap length c.index-self-block.is ∙ sym (ap length row) ∙ none))
