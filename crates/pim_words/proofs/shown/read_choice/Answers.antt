use Rattle.pim_words.proofs.Words.{arith, refl, sym, ◌∙◌, ◌+◌, ◌≤◌, length, err_from_is_err_and}
use Rattle.pim_words.proofs.Choosing.{all_read, one_more, one_too_many, unread}
use Rattle.pim_words.proofs.Orders.{accepted}
use Rattle.pim_words.proofs.shown.read_choice.Goals as goal

pub returns-then-len-eq-MOST_SHOWN : goal.returns-then-len-eq-MOST_SHOWN
returns-then-len-eq-MOST_SHOWN c =
    rw (← c.values_of-texts.ensures) (one_too_many c.values_of-texts.result.now c.loop-text.text-index _ c.loop-text-test.true c.loop-text.addresses.items _ c.loop-text.invariant (omega arith) refl)

pub returns-in_err-address : goal.returns-in_err-address
returns-in_err-address c =
    let few = c.loop-text.invariant.few in
    let room : length c.loop-text.addresses.items + 1 ≤ 64 = omega arith in
    let p = err_from_is_err_and c.from_residual.result c.from_residual.ensures.1 in
    rw (p.1, p.2, ← c.values_of-texts.ensures)
    (unread c.values_of-texts.result.now c.loop-text.text-index _ c.loop-text-test.true c.loop-text.addresses.items _ c.loop-text.invariant room c.in_err-address.ensures)

pub loop-text-preserved : goal.loop-text-preserved
loop-text-preserved c =
    let few = c.loop-text.invariant.few in
    let room : length c.loop-text.addresses.items + 1 ≤ 64 = omega arith in
    one_more c.values_of-texts.result.now c.loop-text.text-index _ c.loop-text-test.true c.loop-text.addresses.items c.push.new.self.items c.in_ok-address.address c.loop-text.invariant room
    c.in_ok-address.ensures (accepted c.push.result _ _ _ c.push.ensures.items (sym c.is_err.ensures.value ∙ c.if-is_err.false))

pub returns : goal.returns
returns c =
    rw (← c.values_of-texts.ensures) (all_read c.values_of-texts.result.now c.loop-text.text-index c.loop-text.addresses.items c.loop-text-test.false c.loop-text.invariant)
