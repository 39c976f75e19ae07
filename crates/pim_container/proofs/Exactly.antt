-- The results for a classic file without further tags, fragments and headers before PIM are those of
-- `pim_capture`.
use Rattle.pim_container.proofs.Words.{◌≡◌, ℕ, zero, suc, ◌+◌, Bool, true, false, not, ◌&&◌, ◌||◌, ◌==◌, nat_lt, List, [], ◌∷◌}
use Rattle.pim_container.proofs.Words.{◌++◌, length, take, drop, Option, Some, None, Result, Ok, Err, ap, sym, ◌∙◌, subst, arith}
use Rattle.pim_container.proofs.Words.{refl, if◌then◌else◌, false≢true, drop-take, drop-drop, length-drop, big_number}
use Rattle.pim_container.proofs.Words.{AddressFamily, fault_if, Why, Cut, NotPim, Fragment, Datagram, judge_packet}
use Rattle.pim_container.proofs.Words.{ethernet_family, raw_family}
use Rattle.pim_container.proofs.Words.{version, records, Big, Classic, Blocks, Carried, is_tag, second_type, after_one, after_two}
use Rattle.pim_container.proofs.Words.{tagged, typed_place, untagged_place, place_of, EventSeen, section, part_event, part_or}
use Rattle.pim_container.proofs.Words.{placed_event, frame_event, is_section, Answer, answers, classic_answers, pieces}
use Rattle.pim_container.proofs.Words.{unless_fault, has_further_tag, has_part, part_by, is_faulty, has_plain_frames}
use Rattle.pim_container.proofs.Words.{of_vlan, ExactEvent}
use Rattle.pim_container.proofs.Words.{ExactAnswers, ExactAfterSection}
use Rattle.pim_capture.specs.declared.fault.CaptureFault.TheVariants as theirs
use Rattle.pim_capture.specs.declared.header.Format as format
use Rattle.pim_capture.specs.declared.header.Link as layer_type
use Rattle.pim_capture.specs.declared.header.Link.TheVariants as layer
use Rattle.pim_capture.specs.declared.vlan.Vlan.{Vlan}
use Rattle.pim_capture.specs.Frame as frame
use Rattle.pim_capture.specs.Header as header
use Rattle.pim_capture.specs.Capture as capture
use Rattle.pim_container.specs.declared.link.LinkLayer.TheVariants as link
use Rattle.pim_container.specs.Classic as classic
use Rattle.pim_addr.specs.declared.family.AddressFamily.TheVariants.{Ipv4, Ipv6}
use Rattle.pim_container.proofs.Apart.{no_part}
use Rattle.pim_container.proofs.Agreement.{place_in, link_as, format_as, less_is, left_is, judged_by, never, millis_same, length_same, rest_is, ones_of, others_of, header_same}

-- ---- frames

exact_part : (millis : ℕ) (bytes : List ℕ) (vlan : Vlan) (family : AddressFamily) (packet : List ℕ) (r : Result Datagram Why) → judge_packet (Some family) packet ≡ r → part_by (Some family) packet r ≡ false
    → ExactEvent (capture.event_by millis bytes r) (part_event millis (of_vlan vlan) (part_or family packet r))
exact_part millis bytes vlan Ipv4 packet (Ok datagram) e plain = (vlan, refl)
exact_part millis bytes vlan Ipv6 packet (Ok datagram) e plain = (vlan, refl)
exact_part millis bytes vlan Ipv4 packet (Err Fragment) e plain = absurd (false≢true (sym plain))
exact_part millis bytes vlan Ipv6 packet (Err NotPim) e plain = (vlan, ap (part_event millis (of_vlan vlan)) (no_part packet e plain))
exact_part millis bytes vlan Ipv4 packet (Err why) e plain = (vlan, refl)
exact_part millis bytes vlan Ipv6 packet (Err why) e plain = (vlan, refl)

exact_raw : (millis : ℕ) (bytes : List ℕ) (cut : Bool) (family : Option AddressFamily) → part_by family bytes (if cut then Err Cut else judge_packet family bytes) ≡ false
    → ExactEvent (capture.event_by millis bytes (if cut then Err Cut else judge_packet family bytes)) (placed_event millis 0 None bytes (if cut then Err Cut else Ok (untagged_place family 0)))
exact_raw millis bytes true family plain = (record { outer = 0; inner = 0 }, refl)
exact_raw millis bytes false None plain = (record { outer = 0; inner = 0 }, refl)
exact_raw millis bytes false (Some family) plain = exact_part millis bytes (record { outer = 0; inner = 0 }) family bytes (judge_packet (Some family) bytes) refl plain

exact_typed : (millis : ℕ) (bytes : List ℕ) (carrier : Carried) (family : Option AddressFamily) → part_by family (drop carrier.at bytes) (judge_packet family (drop carrier.at bytes)) ≡ false
    → ExactEvent (capture.event_by millis bytes (judge_packet family (drop carrier.at bytes))) (placed_event millis 0 None bytes (Ok (place_in family carrier)))
exact_typed millis bytes carrier None plain = (carrier.vlan, refl)
exact_typed millis bytes carrier (Some family) plain =
    exact_part millis bytes carrier.vlan family (drop carrier.at bytes) (judge_packet (Some family) (drop carrier.at bytes)) refl plain

-- a frame without a tag
untagged : (millis : ℕ) (bytes : List ℕ) (cut tag : Bool) (carrier : Carried) (more : Option Carried) → tag ≡ false
    → part_by (ethernet_family carrier.type_number) (drop carrier.at bytes) (if cut then Err Cut else judge_packet (ethernet_family carrier.type_number) (drop carrier.at bytes)) ≡ false
    → ExactEvent (capture.event_by millis bytes (if cut then Err Cut else judge_packet (ethernet_family carrier.type_number) (drop carrier.at bytes)))
    (placed_event millis 0 None bytes (if cut then Err Cut else typed_place (if tag then more else Some carrier) 0 false))
untagged millis bytes true tag carrier more e plain = (record { outer = 0; inner = 0 }, refl)
untagged millis bytes false false carrier more e plain = exact_typed millis bytes carrier (ethernet_family carrier.type_number) plain
untagged millis bytes false true carrier more e plain = absurd (false≢true (sym e))

-- a frame with one tag of 802.1Q: the tests of its length, and of the type after the tag
tagged_once : (millis : ℕ) (bytes : List ℕ) (cut short cut' tag : Bool) (carrier : Carried) (more : Option Carried) → (short ≡ true → cut ≡ true) → (short ≡ false → cut' ≡ cut) → tag ≡ false
    → part_by (ethernet_family carrier.type_number) (drop carrier.at bytes) (if cut then Err Cut else judge_packet (ethernet_family carrier.type_number) (drop carrier.at bytes)) ≡ false
    → ExactEvent (capture.event_by millis bytes (if cut then Err Cut else judge_packet (ethernet_family carrier.type_number) (drop carrier.at bytes)))
    (placed_event millis 0 None bytes (if short then Err Cut else typed_place (if cut' then None else (if not tag then Some carrier else more)) 0 false))
tagged_once millis bytes true true cut' tag carrier more h k e plain = (record { outer = 0; inner = 0 }, refl)
tagged_once millis bytes false true cut' tag carrier more h k e plain = absurd (false≢true (h refl))
tagged_once millis bytes true false true tag carrier more h k e plain = (record { outer = 0; inner = 0 }, refl)
tagged_once millis bytes true false false tag carrier more h k e plain = absurd (false≢true (k refl))
tagged_once millis bytes false false true tag carrier more h k e plain = absurd (false≢true (sym (k refl)))
tagged_once millis bytes false false false false carrier more h k e plain = exact_typed millis bytes carrier (ethernet_family carrier.type_number) plain
tagged_once millis bytes false false false true carrier more h k e plain = absurd (false≢true (sym e))

exact_by : (millis : ℕ) (bytes : List ℕ) (once : Bool) → frame.is_tagged bytes ≡ once → is_tag (big_number 2 (drop (if once then 16 else 12) bytes)) ≡ false
    → part_by (ethernet_family (big_number 2 (drop (if once then 16 else 12) bytes))) (drop (if once then 18 else 14) bytes) (judged_by once bytes) ≡ false
    → ExactEvent (capture.event_by millis bytes (judged_by once bytes)) (placed_event millis 0 None bytes (place_of link.Ethernet bytes))
unfolding judged_by
exact_by millis bytes false e plain whole =
    let type = big_number 2 (drop 12 bytes) in
    let carrier : Carried = record { type_number = type; at = 14; vlan = record { outer = 0; inner = 0 } } in
    untagged millis bytes (nat_lt (length bytes) 14) (is_tag type) carrier (tagged 14 (drop 14 bytes)) plain whole
exact_by millis bytes true e plain whole =
    let rest = drop 14 bytes in
    let is : is_tag (big_number 2 (drop 12 bytes)) ≡ true = ap (λ b. b || big_number 2 (drop 12 bytes) == 0x88a8 || big_number 2 (drop 12 bytes) == 0x9100) e in
    let l : nat_lt (length bytes) 14 ≡ false → nat_lt (length rest) 4 ≡ nat_lt (length bytes) 18 =
    λ long. ap (λ n. nat_lt n 4) (length-drop 14 bytes) ∙ left_is (length bytes) long in
    let part = subst (λ it. part_by (ethernet_family (big_number 2 it)) (drop 18 bytes) (if nat_lt (length bytes) 18 then Err Cut else judge_packet (ethernet_family (big_number 2 it)) (drop 18 bytes)) ≡ false)
    (sym (drop-drop 2 14 bytes)) whole in
    let once = tagged_once millis bytes (nat_lt (length bytes) 18) (nat_lt (length bytes) 14) (nat_lt (length rest) 4) (is_tag (second_type rest)) (after_one 14 rest)
    (if nat_lt (length rest) 8 then None else Some (after_two 14 rest)) (less_is (length bytes) 14 18 (omega arith)) l (ap (λ it. is_tag (big_number 2 it)) (drop-drop 2 14 bytes) ∙ plain) part in
    let there : ExactEvent (capture.event_by millis bytes (if nat_lt (length bytes) 18 then Err Cut else judge_packet (ethernet_family (big_number 2 (drop 16 bytes))) (drop 18 bytes)))
    (placed_event millis 0 None bytes (if nat_lt (length bytes) 14 then Err Cut else typed_place (tagged 14 rest) 0 false)) =
    subst (λ it. ExactEvent (capture.event_by millis bytes (if nat_lt (length bytes) 18 then Err Cut else judge_packet (ethernet_family (big_number 2 it)) (drop 18 bytes)))
    (placed_event millis 0 None bytes (if nat_lt (length bytes) 14 then Err Cut else typed_place (tagged 14 rest) 0 false))) (drop-drop 2 14 bytes) once in
    subst (λ it. ExactEvent (capture.event_by millis bytes (if nat_lt (length bytes) 18 then Err Cut else judge_packet (ethernet_family (big_number 2 (drop 16 bytes))) (drop 18 bytes)))
    (placed_event millis 0 None bytes (if nat_lt (length bytes) 14 then Err Cut else typed_place (if it then tagged 14 rest
    else Some (record { type_number = big_number 2 (drop 12 bytes); at = 14; vlan = record { outer = 0; inner = 0 } })) 0 false))) (sym is) there

exact_frame : (millis : ℕ) (l : layer_type.Link) (bytes : List ℕ) → has_further_tag l bytes ≡ false → has_part l bytes ≡ false
    → ExactEvent (capture.event_by millis bytes (frame.judge_frame l bytes)) (frame_event millis 0 None (link_as l) bytes)
unfolding judged_by
exact_frame millis layer.Ethernet bytes plain whole = exact_by millis bytes (frame.is_tagged bytes) refl plain whole
exact_frame millis layer.Raw bytes plain whole =
    subst (λ it. ExactEvent (capture.event_by millis bytes (frame.judge_frame layer.Raw bytes))
    (placed_event millis 0 None bytes (if it then Err Cut else (if length bytes == 0 then Err Cut else Ok (untagged_place (raw_family (version bytes)) 0)))))
    (sym (never (length bytes))) (exact_raw millis bytes (length bytes == 0) (raw_family (version bytes)) whole)

-- ---- records

exact_record : (f : format.Format) (xs : List ℕ) → has_further_tag f.link (capture.frame_of f xs) ≡ false → has_part f.link (capture.frame_of f xs) ≡ false
    → ExactEvent (capture.record_event f xs) (classic.record_event (format_as f) (take (16 + capture.captured_length f (take 16 xs)) xs))
exact_record f xs plain whole =
    let n = capture.captured_length f (take 16 xs) in
    let same : ExactEvent (capture.record_event f xs) (frame_event (capture.millis_of f (take 16 xs)) 0 None (link_as f.link) (take n (drop 16 xs))) =
    exact_frame (capture.millis_of f (take 16 xs)) f.link (take n (drop 16 xs)) plain whole in
    let framed : ExactEvent (capture.record_event f xs) (frame_event (capture.millis_of f (take 16 xs)) 0 None (link_as f.link) (drop 16 (take (16 + n) xs))) =
    subst (λ it. ExactEvent (capture.record_event f xs) (frame_event (capture.millis_of f (take 16 xs)) 0 None (link_as f.link) it)) (sym (drop-take 16 n xs)) same in
    subst (λ it. ExactEvent (capture.record_event f xs) (frame_event it 0 None (link_as f.link) (drop 16 (take (16 + n) xs)))) (sym (millis_same f xs n)) framed

-- ---- the results, one by one

-- a whole record has no further tag and no part, and those after it have none
tag_test : (a b d tag part later : Bool) → (is_faulty (if a then theirs.Truncated ∷ [] else fault_if b theirs.TooLong ++ fault_if d theirs.Truncated) || not tag && not part && later) ≡ true
    → a ≡ false → b ≡ false → d ≡ false → (tag ≡ false) × (part ≡ false) × (later ≡ true)
tag_test true b d tag part later e no-a no-b no-d = absurd (false≢true (sym no-a))
tag_test false true d tag part later e no-a no-b no-d = absurd (false≢true (sym no-b))
tag_test false false true tag part later e no-a no-b no-d = absurd (false≢true (sym no-d))
tag_test false false false true part later e no-a no-b no-d = absurd (false≢true e)
tag_test false false false false true later e no-a no-b no-d = absurd (false≢true e)
tag_test false false false false false later e no-a no-b no-d = (refl, refl, e)

step : (a b d d' : Bool) (one : capture.EventSeen) (other : EventSeen) (ones : List capture.Answer) (others : List Answer) → (a ≡ false → d' ≡ d)
    → (a ≡ false → b ≡ false → d ≡ false → ExactEvent one other × ExactAnswers ones others) → ExactAnswers (ones_of a b d one ones) (others_of a b d' other others)
unfolding ExactAnswers ones_of others_of
step true b d d' one other ones others h s = (refl, tt)
step false true d d' one other ones others h s = (refl, tt)
step false false true true one other ones others h s = (refl, tt)
step false false true false one other ones others h s = absurd (false≢true (h refl))
step false false false true one other ones others h s = absurd (false≢true (sym (h refl)))
step false false false false one other ones others h s = s refl refl refl

exact_records : (left : ℕ) (f : format.Format) (xs : List ℕ) → has_plain_frames left f xs ≡ true → ExactAnswers (records left f xs) (pieces left (Classic (format_as f)) [] xs)
unfolding records pieces ExactAnswers ones_of others_of has_plain_frames
exact_records zero f [] e = (refl, tt)
exact_records zero f (b ∷ bs) e = (refl, tt)
exact_records (suc left) f [] e = (refl, tt)
exact_records (suc left) f (b ∷ bs) e =
    let xs : List ℕ = b ∷ bs in
    let n = capture.captured_length f (take 16 xs) in
    let c = Classic (format_as f) in
    let parts = tag_test (nat_lt (length xs) 16) (nat_lt capture.most_captured n) (nat_lt (length (drop 16 xs)) n) (has_further_tag f.link (capture.frame_of f xs)) (has_part f.link (capture.frame_of f xs))
    (has_plain_frames left f (capture.after_record f xs)) e in
    let later : has_plain_frames left f (capture.after_record f xs) ≡ true → ExactAnswers (records left f (capture.after_record f xs)) (pieces left c [] (drop (16 + n) xs)) =
    λ none. subst (λ it. ExactAnswers (records left f (capture.after_record f xs)) (pieces left c [] it)) (drop-drop n 16 xs) (exact_records left f (capture.after_record f xs) none) in
    let whole : nat_lt (length xs) 16 ≡ false → nat_lt (length xs) (16 + n) ≡ nat_lt (length (drop 16 xs)) n =
    λ it. rest_is (length xs) n it ∙ ap (λ it. nat_lt it n) (sym (length-drop 16 xs)) in
    let here = step (nat_lt (length xs) 16) (nat_lt capture.most_captured n) (nat_lt (length (drop 16 xs)) n) (nat_lt (length xs) (16 + n)) (capture.record_event f xs)
    (classic.record_event (format_as f) (take (16 + n) xs)) (records left f (capture.after_record f xs)) (pieces left c [] (drop (16 + n) xs)) whole
    (λ no-a no-b no-d. (exact_record f xs (parts no-a no-b no-d).0 (parts no-a no-b no-d).1, later (parts no-a no-b no-d).2)) in
    subst (λ it. ExactAnswers (ones_of (nat_lt (length xs) 16) (nat_lt capture.most_captured n) (nat_lt (length (drop 16 xs)) n) (capture.record_event f xs) (records left f (capture.after_record f xs)))
    (others_of (nat_lt (length xs) 16) (nat_lt capture.most_captured it) (nat_lt (length xs) (16 + it)) (classic.record_event (format_as f) (take (16 + it) xs)) (pieces left c [] (drop (16 + it) xs))))
    (sym (length_same f xs)) here

-- ---- the file

pub agrees_exactly : (bytes : List ℕ) (f : format.Format) → is_section bytes ≡ false → header.judge_header (take 24 bytes) ≡ Ok f → has_plain_frames capture.most_records f (drop 24 bytes) ≡ true
    → ExactAfterSection (capture.answers bytes) (answers bytes)
agrees_exactly bytes f s e none =
    let mine : answers bytes ≡ Ok section ∷ pieces capture.most_records (Classic (format_as f)) [] (drop 24 bytes) =
    ap (λ b. if b then pieces capture.most_records (Blocks Big) [] bytes else classic_answers bytes) s
    ∙ ap (λ r. unless_fault r (λ it. Ok section ∷ pieces capture.most_records (Classic it) [] (drop 24 bytes))) (header_same f bytes e) in
    let other : capture.answers bytes ≡ records capture.most_records f (drop 24 bytes) =
    ap (λ r. capture.unless_fault r (λ it. records capture.most_records it (drop 24 bytes))) e in
    subst (λ it. ExactAfterSection (capture.answers bytes) it) (sym mine)
    (subst (λ it. ExactAnswers it (pieces capture.most_records (Classic (format_as f)) [] (drop 24 bytes))) (sym other) (exact_records capture.most_records f (drop 24 bytes) none))
