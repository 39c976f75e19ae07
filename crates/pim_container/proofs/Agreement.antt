-- The results for a classic file agree with those of `pim_capture`.
use Rattle.pim_container.proofs.Words.{◌≡◌, ℕ, zero, suc, ◌+◌, ◌-◌, ◌*◌, ◌/◌, ◌%◌, ◌^◌, ◌≤◌, Bool, true, false, not, ◌&&◌, ◌||◌}
use Rattle.pim_container.proofs.Words.{◌==◌, nat_lt, List, [], ◌∷◌, ◌++◌, length, take, drop, Option, Some, None, Result, Ok, Err}
use Rattle.pim_container.proofs.Words.{ap, sym, ◌∙◌, subst, arith, refl, if◌then◌else◌, is_ok, false≢true, drop-take, take-take}
use Rattle.pim_container.proofs.Words.{drop-drop, length-drop, common_steps, big_number, AddressFamily, fault_if, judged, Why}
use Rattle.pim_container.proofs.Words.{Cut, NotIp, NotPim, Fragment, Part, part_of, part_or, v4_part, v6_part}
use Rattle.pim_container.proofs.Words.{Datagram, judge_packet, ethernet_family, raw_family, version, records, BlockEndianness}
use Rattle.pim_container.proofs.Words.{Big, Little, ClassicFormat, Classic, Blocks, Carried, number, is_tag, second_type}
use Rattle.pim_container.proofs.Words.{after_one, after_two, tagged, link_of, typed_place, untagged_place, place_of}
use Rattle.pim_container.proofs.Words.{EventSeen, section, fragment_event, part_event, family_event, placed_event}
use Rattle.pim_container.proofs.Words.{frame_event, is_section, Answer, answers}
use Rattle.pim_container.proofs.Words.{classic_answers, judge_beginning, pieces, unless_fault, unless_faults, IsAt, SameEvent}
use Rattle.pim_container.proofs.Words.{SameAnswers, AfterSection}
use Rattle.pim_capture.specs.declared.fault.CaptureFault.{CaptureFault}
use Rattle.pim_capture.specs.declared.fault.CaptureFault.TheVariants as theirs
use Rattle.pim_capture.specs.declared.header.Format as format
use Rattle.pim_capture.specs.declared.header.Endianness as order_type
use Rattle.pim_capture.specs.declared.header.Endianness.TheVariants as order
use Rattle.pim_capture.specs.declared.header.Resolution as unit_type
use Rattle.pim_capture.specs.declared.header.Resolution.TheVariants as resolution
use Rattle.pim_capture.specs.declared.header.Link as layer_type
use Rattle.pim_capture.specs.declared.header.Link.TheVariants as layer
use Rattle.pim_capture.specs.Frame as frame
use Rattle.pim_capture.specs.Header as header
use Rattle.pim_capture.specs.Capture as capture
use Rattle.pim_container.specs.declared.link.LinkLayer.{LinkLayer}
use Rattle.pim_container.specs.declared.link.LinkLayer.TheVariants as link
use Rattle.pim_container.specs.declared.classic.ClassicResolution.{ClassicResolution}
use Rattle.pim_container.specs.declared.classic.ClassicResolution.TheVariants.{Microseconds, Nanoseconds}
use Rattle.pim_container.specs.declared.fault.ContainerFault.TheVariants as fault
use Rattle.pim_container.specs.declared.place.PacketPlace.{PacketPlace}
use Rattle.pim_container.specs.declared.event.Origin.{Origin}
use Rattle.pim_container.specs.Classic as classic
use Rattle.pim_addr.specs.declared.family.AddressFamily.TheVariants.{Ipv4, Ipv6}
use Rattle.pim_fragments.specs.declared.headers.Fragment as fragment_type

-- ---- what stands for what

abbrev pub order_as : order_type.Endianness → BlockEndianness
order_as order.Big = Big
order_as order.Little = Little

abbrev pub link_as : layer_type.Link → LinkLayer
link_as layer.Ethernet = link.Ethernet
link_as layer.Raw = link.Raw

abbrev pub resolution_as : unit_type.Resolution → ClassicResolution
resolution_as resolution.Microseconds = Microseconds
resolution_as resolution.Nanoseconds = Nanoseconds

abbrev pub format_as : format.Format → ClassicFormat
format_as f = record { order = order_as f.endianness; resolution = resolution_as f.resolution; link = link_as f.link }

number_same : (o : order_type.Endianness) (n : ℕ) (xs : List ℕ) → number (order_as o) n xs ≡ header.number o n xs
number_same order.Big n xs = refl
number_same order.Little n xs = refl

per_same : (r : unit_type.Resolution) → classic.per_millisecond (resolution_as r) ≡ capture.per_millisecond r
per_same resolution.Microseconds = refl
per_same resolution.Nanoseconds = refl

-- ---- frames

at_part : (millis : ℕ) (origin : Origin) (datagram : Datagram) (part : Option fragment_type.Fragment) → IsAt millis (fragment_event millis origin datagram part)
at_part millis origin datagram None = refl
at_part millis origin datagram (Some part) = refl

at_time : (millis : ℕ) (origin : Origin) (r : Result Part Why) → IsAt millis (part_event millis origin r)
at_time millis origin (Ok part) = at_part millis origin part.datagram part.fragment
at_time millis origin (Err why) = refl

at_family : (millis : ℕ) (origin : Origin) (family : Option AddressFamily) (packet : List ℕ) → IsAt millis (family_event millis origin family packet)
at_family millis origin None packet = refl
at_family millis origin (Some family) packet = at_time millis origin (part_of family packet)

placed_at : (millis : ℕ) (bytes : List ℕ) (r : Result PacketPlace Why) → IsAt millis (placed_event millis 0 None bytes r)
placed_at millis bytes (Err why) = refl
placed_at millis bytes (Ok place) =
    at_family millis (record { interface = 0; name = None; index = place.index; vlan = place.vlan; is_copy = place.is_copy }) place.family (drop place.at bytes)

-- what `pim_capture` says of a packet, and what it holds
same_part : (millis : ℕ) (bytes : List ℕ) (origin : Origin) (family : AddressFamily) (packet : List ℕ) (r : Result Datagram Why)
    → SameEvent (capture.event_by millis bytes r) (part_event millis origin (part_or family packet r))
same_part millis bytes origin Ipv4 packet (Ok datagram) = (refl, refl)
same_part millis bytes origin Ipv6 packet (Ok datagram) = (refl, refl)
same_part millis bytes origin Ipv4 packet (Err Fragment) = at_time millis origin (v4_part packet)
same_part millis bytes origin Ipv6 packet (Err Fragment) = refl
same_part millis bytes origin Ipv4 packet (Err NotPim) = refl
same_part millis bytes origin Ipv6 packet (Err NotPim) = at_time millis origin (v6_part packet)
same_part millis bytes origin Ipv4 packet (Err NotIp) = refl
same_part millis bytes origin Ipv6 packet (Err NotIp) = refl
same_part millis bytes origin Ipv4 packet (Err why) = (refl, refl)
same_part millis bytes origin Ipv6 packet (Err why) = (refl, refl)

same_raw : (millis : ℕ) (bytes : List ℕ) (cut : Bool) (family : Option AddressFamily)
    → SameEvent (capture.event_by millis bytes (if cut then Err Cut else judge_packet family bytes)) (placed_event millis 0 None bytes (if cut then Err Cut else Ok (untagged_place family 0)))
same_raw millis bytes true family = (refl, refl)
same_raw millis bytes false None = refl
same_raw millis bytes false (Some family) =
    same_part millis bytes (record { interface = 0; name = None; index = 0; vlan = record { outer = 0; inner = 0 }; is_copy = false }) family bytes (judge_packet (Some family) bytes)

-- what the types of tags name
no_family : (type : ℕ) → is_tag type ≡ true → ethernet_family type ≡ None
no_family type e = grind (arith, common_steps)

-- a place behind these tags, and a packet of the family that it names
abbrev pub place_in : Option AddressFamily → Carried → PacketPlace
place_in family carrier = record { family = family; at = carrier.at; vlan = carrier.vlan; index = 0; is_copy = false }

same_typed : (millis : ℕ) (bytes : List ℕ) (carrier : Carried) (family : Option AddressFamily)
    → SameEvent (capture.event_by millis bytes (judge_packet family (drop carrier.at bytes))) (placed_event millis 0 None bytes (Ok (place_in family carrier)))
same_typed millis bytes carrier None = refl
same_typed millis bytes carrier (Some family) =
    same_part millis bytes (record { interface = 0; name = None; index = 0; vlan = carrier.vlan; is_copy = false }) family (drop carrier.at bytes) (judge_packet (Some family) (drop carrier.at bytes))

-- no IP for `pim_capture`, and another result of that time
same_other : (millis : ℕ) (bytes rest : List ℕ) (family : Option AddressFamily) (r : Result PacketPlace Why) → family ≡ None
    → SameEvent (capture.event_by millis bytes (judge_packet family rest)) (placed_event millis 0 None bytes r)
same_other millis bytes rest family r e =
    subst (λ it. SameEvent (capture.event_by millis bytes (judge_packet it rest)) (placed_event millis 0 None bytes r)) (sym e) (placed_at millis bytes r)

-- a frame without a tag of 802.1Q
untagged : (millis : ℕ) (bytes : List ℕ) (cut tag : Bool) (carrier : Carried) (more : Option Carried) → is_tag carrier.type_number ≡ tag
    → SameEvent (capture.event_by millis bytes (if cut then Err Cut else judge_packet (ethernet_family carrier.type_number) (drop carrier.at bytes)))
    (placed_event millis 0 None bytes (if cut then Err Cut else typed_place (if tag then more else Some carrier) 0 false))
untagged millis bytes true tag carrier more e = (refl, refl)
untagged millis bytes false false carrier more e = same_typed millis bytes carrier (ethernet_family carrier.type_number)
untagged millis bytes false true carrier more e =
    same_other millis bytes (drop carrier.at bytes) (ethernet_family carrier.type_number) (typed_place more 0 false) (no_family carrier.type_number e)

-- a frame with such a tag: the tests of its length, and of the type after the tag
tagged_once : (millis : ℕ) (bytes : List ℕ) (cut short cut' tag : Bool) (carrier : Carried) (more : Option Carried) → (short ≡ true → cut ≡ true) → (short ≡ false → cut' ≡ cut)
    → is_tag carrier.type_number ≡ tag
    → SameEvent (capture.event_by millis bytes (if cut then Err Cut else judge_packet (ethernet_family carrier.type_number) (drop carrier.at bytes)))
    (placed_event millis 0 None bytes (if short then Err Cut else typed_place (if cut' then None else (if not tag then Some carrier else more)) 0 false))
tagged_once millis bytes true true cut' tag carrier more h k e = (refl, refl)
tagged_once millis bytes false true cut' tag carrier more h k e = absurd (false≢true (h refl))
tagged_once millis bytes true false true tag carrier more h k e = (refl, refl)
tagged_once millis bytes true false false tag carrier more h k e = absurd (false≢true (k refl))
tagged_once millis bytes false false true tag carrier more h k e = absurd (false≢true (sym (k refl)))
tagged_once millis bytes false false false false carrier more h k e = same_typed millis bytes carrier (ethernet_family carrier.type_number)
tagged_once millis bytes false false false true carrier more h k e =
    same_other millis bytes (drop carrier.at bytes) (ethernet_family carrier.type_number) (typed_place more 0 false) (no_family carrier.type_number e)

pub less_is : (n a b : ℕ) → a ≤ b → nat_lt n a ≡ true → nat_lt n b ≡ true
less_is n a b h e = grind (arith, common_steps)

pub left_is : (n : ℕ) → nat_lt n 14 ≡ false → nat_lt (n - 14) 4 ≡ nat_lt n 18
left_is n e = grind (arith, common_steps)

-- what `pim_capture` says of an Ethernet frame, by the test of its tag
unfoldable pub judged_by : Bool → List ℕ → Result Datagram Why
judged_by once bytes =
    if nat_lt (length bytes) (if once then 18 else 14) then Err Cut
    else judge_packet (ethernet_family (big_number 2 (drop (if once then 16 else 12) bytes))) (drop (if once then 18 else 14) bytes)

same_by : (millis : ℕ) (bytes : List ℕ) (once : Bool) → frame.is_tagged bytes ≡ once
    → SameEvent (capture.event_by millis bytes (judged_by once bytes)) (placed_event millis 0 None bytes (place_of link.Ethernet bytes))
unfolding judged_by
same_by millis bytes false e =
    let type = big_number 2 (drop 12 bytes) in
    let carrier : Carried = record { type_number = type; at = 14; vlan = record { outer = 0; inner = 0 } } in
    untagged millis bytes (nat_lt (length bytes) 14) (is_tag type) carrier (tagged 14 (drop 14 bytes)) refl
same_by millis bytes true e =
    let rest = drop 14 bytes in
    let is : is_tag (big_number 2 (drop 12 bytes)) ≡ true = ap (λ b. b || big_number 2 (drop 12 bytes) == 0x88a8 || big_number 2 (drop 12 bytes) == 0x9100) e in
    let l : nat_lt (length bytes) 14 ≡ false → nat_lt (length rest) 4 ≡ nat_lt (length bytes) 18 =
    λ whole. ap (λ n. nat_lt n 4) (length-drop 14 bytes) ∙ left_is (length bytes) whole in
    let once = tagged_once millis bytes (nat_lt (length bytes) 18) (nat_lt (length bytes) 14) (nat_lt (length rest) 4) (is_tag (second_type rest)) (after_one 14 rest)
    (if nat_lt (length rest) 8 then None else Some (after_two 14 rest)) (less_is (length bytes) 14 18 (omega arith)) l refl in
    let there : SameEvent (capture.event_by millis bytes (if nat_lt (length bytes) 18 then Err Cut else judge_packet (ethernet_family (big_number 2 (drop 16 bytes))) (drop 18 bytes)))
    (placed_event millis 0 None bytes (if nat_lt (length bytes) 14 then Err Cut else typed_place (tagged 14 rest) 0 false)) =
    subst (λ it. SameEvent (capture.event_by millis bytes (if nat_lt (length bytes) 18 then Err Cut else judge_packet (ethernet_family (big_number 2 it)) (drop 18 bytes)))
    (placed_event millis 0 None bytes (if nat_lt (length bytes) 14 then Err Cut else typed_place (tagged 14 rest) 0 false))) (drop-drop 2 14 bytes) once in
    subst (λ it. SameEvent (capture.event_by millis bytes (if nat_lt (length bytes) 18 then Err Cut else judge_packet (ethernet_family (big_number 2 (drop 16 bytes))) (drop 18 bytes)))
    (placed_event millis 0 None bytes (if nat_lt (length bytes) 14 then Err Cut else typed_place (if it then tagged 14 rest
    else Some (record { type_number = big_number 2 (drop 12 bytes); at = 14; vlan = record { outer = 0; inner = 0 } })) 0 false))) (sym is) there

same_ethernet : (millis : ℕ) (bytes : List ℕ)
    → SameEvent (capture.event_by millis bytes (frame.judge_frame layer.Ethernet bytes)) (placed_event millis 0 None bytes (place_of link.Ethernet bytes))
unfolding judged_by
same_ethernet millis bytes = same_by millis bytes (frame.is_tagged bytes) refl

pub never : (n : ℕ) → nat_lt n 0 ≡ false
never n = grind (arith, common_steps)

same_frame : (millis : ℕ) (l : layer_type.Link) (bytes : List ℕ)
    → SameEvent (capture.event_by millis bytes (frame.judge_frame l bytes)) (frame_event millis 0 None (link_as l) bytes)
same_frame millis layer.Ethernet bytes = same_ethernet millis bytes
same_frame millis layer.Raw bytes =
    subst (λ it. SameEvent (capture.event_by millis bytes (frame.judge_frame layer.Raw bytes))
    (placed_event millis 0 None bytes (if it then Err Cut else (if length bytes == 0 then Err Cut else Ok (untagged_place (raw_family (version bytes)) 0)))))
    (sym (never (length bytes))) (same_raw millis bytes (length bytes == 0) (raw_family (version bytes)))

-- ---- records

front12 : (o : order_type.Endianness) (xs : List ℕ) → header.number o 4 (take 12 xs) ≡ header.number o 4 xs
front12 order.Big [] = refl
front12 order.Big (a ∷ []) = refl
front12 order.Big (a ∷ b ∷ []) = refl
front12 order.Big (a ∷ b ∷ d ∷ []) = refl
front12 order.Big (a ∷ b ∷ d ∷ e ∷ xs) = refl
front12 order.Little [] = refl
front12 order.Little (a ∷ []) = refl
front12 order.Little (a ∷ b ∷ []) = refl
front12 order.Little (a ∷ b ∷ d ∷ []) = refl
front12 order.Little (a ∷ b ∷ d ∷ e ∷ xs) = refl

front16 : (o : order_type.Endianness) (xs : List ℕ) → header.number o 4 (take 16 xs) ≡ header.number o 4 xs
front16 order.Big [] = refl
front16 order.Big (a ∷ []) = refl
front16 order.Big (a ∷ b ∷ []) = refl
front16 order.Big (a ∷ b ∷ d ∷ []) = refl
front16 order.Big (a ∷ b ∷ d ∷ e ∷ xs) = refl
front16 order.Little [] = refl
front16 order.Little (a ∷ []) = refl
front16 order.Little (a ∷ b ∷ []) = refl
front16 order.Little (a ∷ b ∷ d ∷ []) = refl
front16 order.Little (a ∷ b ∷ d ∷ e ∷ xs) = refl

-- the seconds and the fraction of a record, of its head alone
seconds_same : (o : order_type.Endianness) (xs : List ℕ) (n : ℕ) → header.number o 4 (take (16 + n) xs) ≡ header.number o 4 (take 16 xs)
seconds_same o xs n =
    let m : 16 ≤ 16 + n = omega arith in
    sym (front16 o (take (16 + n) xs)) ∙ ap (header.number o 4) (take-take 16 (16 + n) xs m)

fraction_same : (o : order_type.Endianness) (xs : List ℕ) (n : ℕ) → header.number o 4 (drop 4 (take (16 + n) xs)) ≡ header.number o 4 (drop 4 (take 16 xs))
fraction_same o xs n =
    let m : 16 ≤ 16 + n = omega arith in
    sym (front12 o (drop 4 (take (16 + n) xs))) ∙ ap (header.number o 4) (sym (drop-take 4 12 (take (16 + n) xs)))
    ∙ ap (λ it. header.number o 4 (drop 4 it)) (take-take 16 (16 + n) xs m)

pub millis_same : (f : format.Format) (xs : List ℕ) (n : ℕ) → classic.millis_of (format_as f) (take (16 + n) xs) ≡ capture.millis_of f (take 16 xs)
millis_same f xs n =
    let s = number_same f.endianness 4 (take (16 + n) xs) ∙ seconds_same f.endianness xs n in
    let d = number_same f.endianness 4 (drop 4 (take (16 + n) xs)) ∙ fraction_same f.endianness xs n in
    ap (λ it. it * 1000 + number (order_as f.endianness) 4 (drop 4 (take (16 + n) xs)) / classic.per_millisecond (resolution_as f.resolution)) s
    ∙ ap (λ it. header.number f.endianness 4 (take 16 xs) * 1000 + it / classic.per_millisecond (resolution_as f.resolution)) d
    ∙ ap (λ it. header.number f.endianness 4 (take 16 xs) * 1000 + header.number f.endianness 4 (drop 4 (take 16 xs)) / it) (per_same f.resolution)

pub length_same : (f : format.Format) (xs : List ℕ) → classic.captured_length (format_as f) (take 16 xs) ≡ capture.captured_length f (take 16 xs)
length_same f xs = number_same f.endianness 4 (drop 8 (take 16 xs))

record_same : (f : format.Format) (xs : List ℕ) → SameEvent (capture.record_event f xs) (classic.record_event (format_as f) (take (16 + capture.captured_length f (take 16 xs)) xs))
record_same f xs =
    let n = capture.captured_length f (take 16 xs) in
    let same : SameEvent (capture.record_event f xs) (frame_event (capture.millis_of f (take 16 xs)) 0 None (link_as f.link) (take n (drop 16 xs))) =
    same_frame (capture.millis_of f (take 16 xs)) f.link (take n (drop 16 xs)) in
    let framed : SameEvent (capture.record_event f xs) (frame_event (capture.millis_of f (take 16 xs)) 0 None (link_as f.link) (drop 16 (take (16 + n) xs))) =
    subst (λ it. SameEvent (capture.record_event f xs) (frame_event (capture.millis_of f (take 16 xs)) 0 None (link_as f.link) it)) (sym (drop-take 16 n xs)) same in
    subst (λ it. SameEvent (capture.record_event f xs) (frame_event it 0 None (link_as f.link) (drop 16 (take (16 + n) xs)))) (sym (millis_same f xs n)) framed

-- ---- the results, one by one

-- the results for a record of this captured length, where `cut` is the test of its head
unfoldable pub ones_of : Bool → Bool → Bool → capture.EventSeen → List capture.Answer → List capture.Answer
ones_of a b d one ones =
    capture.unless_fault (judged (if a then theirs.Truncated ∷ [] else fault_if b theirs.TooLong ++ fault_if d theirs.Truncated) one) (λ reported. Ok reported ∷ ones)

unfoldable pub others_of : Bool → Bool → Bool → EventSeen → List Answer → List Answer
others_of a b d other others =
    unless_fault (unless_faults (if a then fault.Truncated ∷ [] else fault_if b fault.TooLong ++ fault_if d fault.Truncated) (Ok other)) (λ reported. Ok reported ∷ others)

step : (a b d d' : Bool) (one : capture.EventSeen) (other : EventSeen) (ones : List capture.Answer) (others : List Answer) → (a ≡ false → d' ≡ d) → SameEvent one other → SameAnswers ones others
    → SameAnswers (ones_of a b d one ones) (others_of a b d' other others)
unfolding SameAnswers ones_of others_of
step true b d d' one other ones others h s t = (refl, tt)
step false true d d' one other ones others h s t = (refl, tt)
step false false true true one other ones others h s t = (refl, tt)
step false false true false one other ones others h s t = absurd (false≢true (h refl))
step false false false true one other ones others h s t = absurd (false≢true (sym (h refl)))
step false false false false one other ones others h s t = (s, t)

pub rest_is : (size n : ℕ) → nat_lt size 16 ≡ false → nat_lt size (16 + n) ≡ nat_lt (size - 16) n
rest_is size n e = grind (arith, common_steps)

same_records : (left : ℕ) (f : format.Format) (xs : List ℕ) → SameAnswers (records left f xs) (pieces left (Classic (format_as f)) [] xs)
unfolding records pieces SameAnswers ones_of others_of
same_records zero f [] = (refl, tt)
same_records zero f (b ∷ bs) = (refl, tt)
same_records (suc left) f [] = (refl, tt)
same_records (suc left) f (b ∷ bs) =
    let xs : List ℕ = b ∷ bs in
    let n = capture.captured_length f (take 16 xs) in
    let c = Classic (format_as f) in
    let later : SameAnswers (records left f (capture.after_record f xs)) (pieces left c [] (drop (16 + n) xs)) =
    subst (λ it. SameAnswers (records left f (capture.after_record f xs)) (pieces left c [] it)) (drop-drop n 16 xs) (same_records left f (capture.after_record f xs)) in
    let whole : nat_lt (length xs) 16 ≡ false → nat_lt (length xs) (16 + n) ≡ nat_lt (length (drop 16 xs)) n =
    λ e. rest_is (length xs) n e ∙ ap (λ it. nat_lt it n) (sym (length-drop 16 xs)) in
    let here = step (nat_lt (length xs) 16) (nat_lt capture.most_captured n) (nat_lt (length (drop 16 xs)) n) (nat_lt (length xs) (16 + n)) (capture.record_event f xs)
    (classic.record_event (format_as f) (take (16 + n) xs)) (records left f (capture.after_record f xs)) (pieces left c [] (drop (16 + n) xs)) whole (record_same f xs) later in
    subst (λ it. SameAnswers (ones_of (nat_lt (length xs) 16) (nat_lt capture.most_captured n) (nat_lt (length (drop 16 xs)) n) (capture.record_event f xs) (records left f (capture.after_record f xs)))
    (others_of (nat_lt (length xs) 16) (nat_lt capture.most_captured it) (nat_lt (length xs) (16 + it)) (classic.record_event (format_as f) (take (16 + it) xs)) (pieces left c [] (drop (16 + it) xs))))
    (sym (length_same f xs)) here

-- ---- the file header

none_of : {A : Type 0} (faults : List CaptureFault) (value value' : A) → judged faults value ≡ Ok value' → (faults ≡ []) × (value ≡ value')
none_of [] value value' e = grind (arith, common_steps)
none_of (g ∷ faults) value value' e = absurd (false≢true (ap is_ok e))

is_nil : List CaptureFault → Bool
is_nil [] = true
is_nil (f ∷ fs) = false

tests : (a m l : Bool) → (if a then theirs.Truncated ∷ [] else fault_if m theirs.Magic ++ fault_if l theirs.LinkType) ≡ [] → (a ≡ false) × (m ≡ false) × (l ≡ false)
unfolding is_nil
tests true m l e = absurd (false≢true (ap is_nil e))
tests false true l e = absurd (false≢true (ap is_nil e))
tests false false true e = absurd (false≢true (ap is_nil e))
tests false false false e = (refl, refl, refl)

order_by : (b : Bool) → (if b then Big else Little) ≡ order_as (if b then order.Big else order.Little)
order_by true = refl
order_by false = refl

resolution_by : (b : Bool) → (if b then Nanoseconds else Microseconds) ≡ resolution_as (if b then resolution.Nanoseconds else resolution.Microseconds)
resolution_by true = refl
resolution_by false = refl

rest_of_links : ℕ → LinkLayer
rest_of_links n =
    if n == 228 then link.Ipv4
    else (if n == 229 then link.Ipv6
    else (if n == 113 then link.Cooked
    else (if n == 276 then link.CookedV2
    else (if n == 0 || n == 108 then link.Loopback else link.Other n))))

link_by : (t t' u v : Bool) (w : LinkLayer) → (not t && not t') ≡ false
    → (if t then link.Ethernet else (if t' || u || v then link.Raw else w)) ≡ link_as (if t then layer.Ethernet else layer.Raw)
link_by true t' u v w e = refl
link_by false true u v w e = refl
link_by false false u v w e = absurd (false≢true (sym e))

formatted : (h : List ℕ) (l : layer_type.Link)
    → classic.format_with h (link_as l) ≡ Ok (record { order = classic.file_order h; resolution = classic.resolution_of h; link = link_as l })
formatted h layer.Ethernet = refl
formatted h layer.Raw = refl

whole_is : (xs : List ℕ) → nat_lt (length (take 24 xs)) 24 ≡ false → nat_lt (length xs) 24 ≡ false
whole_is xs e = grind (arith, common_steps)

pub header_same : (f : format.Format) (xs : List ℕ) → header.judge_header (take 24 xs) ≡ Ok f → judge_beginning xs ≡ Ok (format_as f)
unfolding rest_of_links
header_same f xs e =
    let h = take 24 xs in
    let n = none_of (header.header_faults h) (header.format_of h) f e in
    let t = tests (nat_lt (length h) 24) (not (header.is_magic order.Big h) && not (header.is_magic order.Little h)) (not (header.link_type h == 1) && not (header.link_type h == 101)) n.0 in
    let o = header.endianness_of h in
    let same : classic.file_order h ≡ order_as o = order_by (header.is_magic order.Big h) in
    let type : classic.link_type h ≡ header.link_type h = ap (λ it. number it 4 (drop 20 h) % 2 ^ 16) same ∙ ap (λ it. it % 2 ^ 16) (number_same o 4 (drop 20 h)) in
    let magic : number (classic.file_order h) 4 h ≡ header.number o 4 h = ap (λ it. number it 4 h) same ∙ number_same o 4 h in
    let unit : classic.resolution_of h ≡ resolution_as (header.resolution_of h) =
    ap (λ it. if it == header.nanoseconds_magic then Nanoseconds else Microseconds) magic ∙ resolution_by (header.number o 4 h == header.nanoseconds_magic) in
    let linked : link_of (classic.link_type h) ≡ link_as (header.link_of h) =
    ap link_of type
    ∙ link_by (header.link_type h == 1) (header.link_type h == 101) (header.link_type h == 12) (header.link_type h == 14) (rest_of_links (header.link_type h)) t.2 in
    ap (λ b. if b then Err fault.Truncated else classic.judge_header h) (whole_is xs t.0)
    ∙ ap (λ b. if b then (if classic.is_gzip h then Err fault.Gzip else Err fault.Magic) else classic.format_with h (link_of (classic.link_type h))) t.1
    ∙ ap (classic.format_with h) linked
    ∙ formatted h (header.link_of h)
    ∙ ap (λ it. Ok (record { order = it; resolution = classic.resolution_of h; link = link_as (header.link_of h) })) same
    ∙ ap (λ it. Ok (record { order = order_as o; resolution = it; link = link_as (header.link_of h) })) unit
    ∙ ap (λ it. Ok (format_as it)) n.1

-- ---- the file

pub agrees : (bytes : List ℕ) (f : format.Format) → is_section bytes ≡ false → header.judge_header (take 24 bytes) ≡ Ok f → AfterSection (capture.answers bytes) (answers bytes)
agrees bytes f s e =
    let mine : answers bytes ≡ Ok section ∷ pieces capture.most_records (Classic (format_as f)) [] (drop 24 bytes) =
    ap (λ b. if b then pieces capture.most_records (Blocks Big) [] bytes else classic_answers bytes) s
    ∙ ap (λ r. unless_fault r (λ it. Ok section ∷ pieces capture.most_records (Classic it) [] (drop 24 bytes))) (header_same f bytes e) in
    let other : capture.answers bytes ≡ records capture.most_records f (drop 24 bytes) =
    ap (λ r. capture.unless_fault r (λ it. records capture.most_records it (drop 24 bytes))) e in
    subst (λ it. AfterSection (capture.answers bytes) it) (sym mine)
    (subst (λ it. SameAnswers it (pieces capture.most_records (Classic (format_as f)) [] (drop 24 bytes))) (sym other) (same_records capture.most_records f (drop 24 bytes)))
