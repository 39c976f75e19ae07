use Rattle.std.proofs.Common.{arith, length, sym, subst, ◌≡◌, ◌*◌, ◌/◌, ◌^◌, ◌<◌}
use Rattle.pim_time.proofs.Numbers.{part_below, power_above, small_number}
use Rattle.pim_time.proofs.digits.read_part.Goals as goal

pub nonzero_div-result : goal.nonzero_div-result
nonzero_div-result c =
    let above = power_above (length c.in_ok-tail.tail.now) in
    grind (arith, above)

pub returns-clause-below : goal.returns-clause-below
returns-clause-below c =
    let long = length c.in_ok-tail.tail.now in
    let number = c.in_ok-number.number in
    let scale : c.pow-scale.result ≡ 10 ^ long = grind arith in
    let below = part_below number long (small_number 9 c.in_ok-tail.tail.now number long c.in_ok-number.ensures.read (omega arith)) in
    subst (λ n. number * 1000 / n < 1000) (sym scale) below
