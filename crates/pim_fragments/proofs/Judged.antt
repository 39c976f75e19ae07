-- Packets that are whole, or are no part.
use Rattle.std.proofs.Common.{◌≡◌, ◌∙◌, ℕ, Bool, true, false, List, ◌++◌, refl, sym, ap, eq-eqb}
use Rattle.std.proofs.lemmas.Bool.{false≢true}
use Rattle.std.specs.Prelude.{Ok, Err, Some, not, slice_index, ◌==◌}
use Rattle.pim_addr.specs.declared.family.AddressFamily.{AddressFamily}
use Rattle.pim_addr.specs.declared.family.AddressFamily.TheVariants.{Ipv4, Ipv6}
use Rattle.pim_addr.specs.Faults.{fault_if, judged}
use Rattle.pim_capture.specs.declared.event.Why.{Why}
use Rattle.pim_capture.specs.declared.event.Why.TheVariants as why
use Rattle.pim_capture.specs.Frame.{Datagram, judge_packet, is_bad_header, protocol, packet_length}
use Rattle.pim_fragments.specs.Headers.{is_read}
use Rattle.pim_fragments.specs.Parts.{part_of, part_or, may_be_part, v6_part, walked}
use Rattle.pim_fragments.proofs.Walks.{unread}

-- the reason is the protocol
other_protocol : (cut bad is_pim fragment cut2 : Bool) (datagram : Datagram)
    → judged (fault_if cut why.Cut ++ fault_if bad why.BadHeader ++ fault_if (not is_pim) why.NotPim ++ fault_if fragment why.Fragment ++ fault_if cut2 why.Cut) datagram ≡ Err why.NotPim → is_pim ≡ false
other_protocol true bad is_pim fragment cut2 datagram e = let h : Err why.Cut ≡ Err why.NotPim = e in cc
other_protocol false true is_pim fragment cut2 datagram e = let h : Err why.BadHeader ≡ Err why.NotPim = e in cc
other_protocol false false false fragment cut2 datagram e = refl
other_protocol false false true true cut2 datagram e = let h : Err why.Fragment ≡ Err why.NotPim = e in cc
other_protocol false false true false true datagram e = let h : Err why.Cut ≡ Err why.NotPim = e in cc
other_protocol false false true false false datagram e = let h : Ok datagram ≡ Err why.NotPim = e in cc

no_part : (packet : List ℕ) → judge_packet (Some Ipv6) packet ≡ Err why.NotPim → is_read (protocol Ipv6 packet) ≡ false → v6_part packet ≡ Err why.NotPim
no_part packet e other =
    let is_other = other_protocol _ (is_bad_header Ipv6 packet) (protocol Ipv6 packet == 103) false _ _ e in
    ap (walked packet) (unread (slice_index packet 6) 40 (packet_length Ipv6 packet) packet
    (λ same. false≢true (sym is_other ∙ eq-eqb (slice_index packet 6) 103 same)) other)

skipped_still : (family : AddressFamily) (packet : List ℕ) (reason : Why) → judge_packet (Some family) packet ≡ Err reason → may_be_part family packet reason ≡ false → part_or family packet (Err reason) ≡ Err reason
skipped_still Ipv4 packet why.Fragment e h = absurd (false≢true (sym h))
skipped_still Ipv6 packet why.NotPim e h = no_part packet e h
skipped_still Ipv4 packet reason e h = refl
skipped_still Ipv6 packet reason e h = refl

pub skipped : (family : AddressFamily) (packet : List ℕ) (reason : Why) → judge_packet (Some family) packet ≡ Err reason → may_be_part family packet reason ≡ false → part_of family packet ≡ Err reason
skipped family packet reason e h = ap (part_or family packet) e ∙ skipped_still family packet reason e h
