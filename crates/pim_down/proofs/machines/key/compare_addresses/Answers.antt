use Rattle.pim_down.proofs.Words.{◌∙◌, sym, ap, nat_cmp, number_of}
use Rattle.pim_down.proofs.machines.key.compare_addresses.Goals as goal

-- the order of the numbers, which are those of the bytes
pub returns : goal.returns
returns g c =
    c.cmp.ensures ∙ g.met.F.Family.order_of_numbers c.number.result c.number-2.result
    ∙ ap (λ n. nat_cmp n (g.F.Family.value_of c.number-2.result)) c.number.ensures
    ∙ ap (nat_cmp (number_of (g.F.Family.bytes_of c.args.a))) c.number-2.ensures
    ∙ sym (c.numbers_are_in_order.ensures g.F.Family.family (g.F.Family.bytes_of c.args.a) (g.F.Family.bytes_of c.args.b) c.address_has_its_bytes.ensures c.address_has_its_bytes-2.ensures)
