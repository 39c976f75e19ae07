-- IPv6 packets without a header that is read before PIM.
use Rattle.pim_container.proofs.Words.{◌≡◌, ℕ, suc, Bool, true, false, not, List, ◌++◌, ◌==◌, Some, Ok, Err, ap, ◌∙◌, arith, refl}
use Rattle.pim_container.proofs.Words.{Cut, BadHeader, NotPim, Fragment, fault_if, judged, Datagram, judge_packet, v6_part}
use Rattle.std.specs.Prelude.{slice_index}
use Rattle.pim_addr.specs.declared.family.AddressFamily.TheVariants.{Ipv6}
use Rattle.pim_capture.specs.Frame.{is_bad_header, protocol, packet_length}
use Rattle.pim_fragments.specs.Headers.{is_read, most_headers}
unfoldable use Rattle.pim_fragments.specs.Headers.{walk}
use Rattle.pim_fragments.specs.Parts.{walked}

-- the walk ends at the first header
unread_by : (left next at total : ℕ) (bytes : List ℕ) → (next == 103) ≡ false → is_read next ≡ false → walk (suc left) next at total bytes ≡ Err NotPim
unfolding walk
unread_by left next at total bytes apart other = rw (apart, other) refl

unread : (next at total : ℕ) (bytes : List ℕ) → (next == 103) ≡ false → is_read next ≡ false → walk most_headers next at total bytes ≡ Err NotPim
unread next at total bytes apart other =
    let one : most_headers ≡ suc 8199 = omega arith in
    ap (λ left. walk left next at total bytes) one ∙ unread_by 8199 next at total bytes apart other

-- the reason is the protocol
other_protocol : (cut bad is_pim fragment cut2 : Bool) (datagram : Datagram)
    → judged (fault_if cut Cut ++ fault_if bad BadHeader ++ fault_if (not is_pim) NotPim ++ fault_if fragment Fragment ++ fault_if cut2 Cut) datagram ≡ Err NotPim → is_pim ≡ false
other_protocol true bad is_pim fragment cut2 datagram e = let h : Err Cut ≡ Err NotPim = e in cc
other_protocol false true is_pim fragment cut2 datagram e = let h : Err BadHeader ≡ Err NotPim = e in cc
other_protocol false false false fragment cut2 datagram e = refl
other_protocol false false true true cut2 datagram e = let h : Err Fragment ≡ Err NotPim = e in cc
other_protocol false false true false true datagram e = let h : Err Cut ≡ Err NotPim = e in cc
other_protocol false false true false false datagram e = let h : Ok datagram ≡ Err NotPim = e in cc

pub no_part : (packet : List ℕ) → judge_packet (Some Ipv6) packet ≡ Err NotPim → is_read (protocol Ipv6 packet) ≡ false → v6_part packet ≡ Err NotPim
no_part packet e other =
    let apart = other_protocol _ (is_bad_header Ipv6 packet) (protocol Ipv6 packet == 103) false _ _ e in
    ap (walked packet) (unread (slice_index packet 6) 40 (packet_length Ipv6 packet) packet apart other)
