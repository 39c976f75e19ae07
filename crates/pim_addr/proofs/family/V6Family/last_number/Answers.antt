use Rattle.pim_addr.proofs.Words.{◌≤◌, ◌^◌, ◌-◌, ◌*◌, ◌%◌, ◌==◌, ◌∙◌, ap, sym, subst, arith, one-mul, mod-le, Ipv6}
use Rattle.pim_addr.proofs.Numbers.{last_of_all, no_carry}
use Rattle.pim_addr.proofs.family.V6Family.last_number.Goals as goal

pub returns-then-count-eq0 : goal.returns-then-count-eq0
returns-then-count-eq0 c = last_of_all Ipv6 c.args.count c.args.prefix c.if-count-eq0.true c.address_has_its_bytes.ensures

pub overflow_add-result : goal.overflow_add-result
overflow_add-result c =
    let fits = no_carry 128 c.args.count c.number.result (1 * 2 ^ (128 - c.args.count) % 2 ^ 128) c.requires.count (omega (arith, c.number.type_inv))
    (ap (λ n. n % 2 ^ (128 - c.args.count) == 0) c.number.ensures ∙ c.requires.within) (subst (λ n. n % 2 ^ 128 ≤ 2 ^ (128 - c.args.count)) (sym (one-mul (2 ^ (128 - c.args.count)))) (mod-le (2 ^ (128 - c.args.count)) (2 ^ 128))) in
    omega (arith, fits)
