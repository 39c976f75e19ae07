use Rattle.pim_addr.proofs.Words.{◌≡◌, sym, ◌∙◌, Ipv6}
use Rattle.pim_addr.proofs.parsed.read_text.Goals as goal

pub returns-in_err-address-in-Ipv6-clause-no_text :
    goal.returns-in_err-address-in-Ipv6-clause-no_text
returns-in_err-address-in-Ipv6-clause-no_text g c =
    let is : g.F.Family.family ≡ Ipv6 = sym c.family.ensures ∙ c.in-Ipv6.is in
    rw (c.from_residual-in_err-address-in-Ipv6.ensures, is) c.in_err-address-in-Ipv6.ensures.no_text
