use Rattle.pim_words.proofs.Words.{sym, ◌∙◌, err_from_is_err_and, is_in, address_in}
use Rattle.pim_words.proofs.Orders.{accepted}
use Rattle.pim_words.proofs.OneFamily.{all_typed, foreign, one_more}
use Rattle.pim_words.proofs.typed.all_in_family.Goals as goal

pub returns-in_err-address : goal.returns-in_err-address
returns-in_err-address g c =
    let p = err_from_is_err_and c.from_residual.result c.from_residual.ensures.1 in
    rw (p.1, p.2)
    (foreign (is_in g.F.Family.family) (λ a. address_in g.F.Family.family (g.F.Family.bytes_of a)) c.args.addresses.now c.loop-address.address-index _ c.loop-address-test.true c.loop-address.typed.items c.loop-address.invariant _ c.in_err-address.ensures)

pub loop-address-preserved : goal.loop-address-preserved
loop-address-preserved g c =
    one_more (is_in g.F.Family.family) (λ a. address_in g.F.Family.family (g.F.Family.bytes_of a)) c.args.addresses.now c.loop-address.address-index _ c.loop-address-test.true c.loop-address.typed.items c.loop-address.invariant c.push.new.self.items c.in_ok-address.address
    c.in_ok-address.ensures (accepted c.push.result _ _ _ c.push.ensures.items (sym c.is_err.ensures.value ∙ c.if-is_err.false))

pub returns : goal.returns
returns g c = all_typed (is_in g.F.Family.family) (λ a. address_in g.F.Family.family (g.F.Family.bytes_of a)) c.args.addresses.now c.loop-address.address-index c.loop-address.typed.items c.loop-address-test.false c.loop-address.invariant
