use Rattle.std.proofs.Common.{refl, sym, ◌∙◌}
use Rattle.pim_frame.specs.Folded.{folded}
use Rattle.pim_frame.specs.Sum.{words_sum}
use Rattle.pim_frame.proofs.Sums.{pseudo_header_folded}
use Rattle.pim_frame.proofs.checksum.pseudo_header_sum.Goals as goal

pub returns-in-Ipv4-clause-sum : goal.returns-in-Ipv4-clause-sum
unfolding folded words_sum
returns-in-Ipv4-clause-sum g c = rw (← c.in-Ipv4.ensures) refl

pub returns-in-Ipv6-clause-sum : goal.returns-in-Ipv6-clause-sum
returns-in-Ipv6-clause-sum g c =
    c.add_word.ensures
    ∙ pseudo_header_folded g.F.Family.family (g.F.Family.bytes_of c.args.src) (g.F.Family.bytes_of c.args.dst) c.args.message_length
    c.add_address-sum.result c.add_address-sum-in-Ipv6.result c.add_bytes-sum.result (sym c.in-Ipv6.ensures)
    c.add_address-sum.ensures.whole c.add_address-sum-in-Ipv6.ensures.whole c.add_address-sum.ensures.sum c.add_address-sum-in-Ipv6.ensures.sum
    (rw c.to_be_bytes.ensures at c.add_bytes-sum.ensures)
