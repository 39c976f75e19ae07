-- A classic file of one link, result by result.
use Rattle.pim_merge.proofs.Words.{◌≡◌, ◌∙◌, ℕ, zero, suc, Bool, true, false, not, ◌&&◌, ◌==◌, ◌++◌, if◌then◌else◌, List, []}
use Rattle.pim_merge.proofs.Words.{◌∷◌, take, drop, Option, None, Some, Result, Ok, Err, ap, sym, refl, subst, eq-eqb}
use Rattle.pim_merge.proofs.Words.{false≢true, AllByRecursion, judged, fault_if, CaptureFault, Format, Datagram, judge_frame}
use Rattle.pim_merge.proofs.Words.{AddressFamily, Why, Cut, NotIp, BadHeader, NotPim, Fragment, Part, NoTime, LinkType}
use Rattle.pim_merge.proofs.Words.{NotChosen, Copy, CutShort, NextFile, OfLink, Incomplete, RecordPlace, EventSeen, packet, skipped}
use Rattle.pim_merge.proofs.Words.{ended, Answer, answers, records, most_records, event_by, unless_fault, record_faults}
use Rattle.pim_merge.proofs.Words.{record_event, millis_of, frame_of, after_record, judge_header, in_front, Origin}
use Rattle.pim_merge.proofs.Words.{ContainerFault, is_section, judge_origin, first_after, is_same_vlan, chosen, next_files}
use Rattle.pim_merge.proofs.Words.{answers_by, fault_given, put, no_choice, IsOfVlan, as_any, all_as_any, TakerState}
use Rattle.pim_merge.proofs.Words.{ending_given}
use Rattle.std.specs.Prelude.{⊤}
use Rattle.pim_capture.specs.declared.fault.CaptureFault.TheVariants as fault
use Rattle.pim_capture.specs.declared.header.Link.{Link}
use Rattle.pim_capture.specs.declared.vlan.Vlan.{Vlan}
use Rattle.pim_capture.specs.Frame.{judge_packet, datagram_of, is_link_cut, stated_family, link_length}
use Rattle.pim_container.specs.declared.choice.Mixed.TheVariants.{Vlans}
use Rattle.pim_container.specs.Agreement.{SameFault, of_vlan, ExactAnswers, ExactAfterSection, has_plain_frames, AgreesExactly}
use Rattle.pim_container.specs.EventSeen as any
use Rattle.pim_container.specs.Pieces as pieces
use Rattle.pim_fragments.specs.Packets.{nothing}
use Rattle.pim_merge.specs.declared.taker.FileLink.{FileLink}
use Rattle.pim_merge.specs.declared.taker.FileLink.TheVariants.{Unmet, Met}
use Rattle.pim_merge.specs.Taker.{taker_of, taken_given, untaken, link_with, next_record}

-- ---- the reasons for which a classic capture skips frames

-- its link type isn't read
abbrev is_unread : Why → Bool
is_unread (LinkType number) = true
is_unread why = false

-- it isn't skipped for this reason
abbrev IsRead : Result Datagram Why → Type 0
IsRead (Ok datagram) = ⊤
IsRead (Err why) = is_unread why ≡ false

read_whys : (a b c d e : Bool) (datagram : Datagram) →
    IsRead (judged (fault_if a Cut ++ fault_if b BadHeader ++ fault_if c NotPim ++ fault_if d Fragment ++ fault_if e
    Cut) datagram)
read_whys true b c d e datagram = refl
read_whys false true c d e datagram = refl
read_whys false false true d e datagram = refl
read_whys false false false true e datagram = refl
read_whys false false false false true datagram = refl
read_whys false false false false false datagram = tt

read_packet : (family : Option AddressFamily) (bytes : List ℕ) → IsRead (judge_packet family bytes)
read_packet None bytes = refl
read_packet (Some family) bytes = read_whys _ _ _ _ _ (datagram_of family bytes)

unless_cut_off : (b : Bool) (judgment : Result Datagram Why) → IsRead judgment →
    IsRead (if b then Err Cut else judgment)
unless_cut_off true judgment h = refl
unless_cut_off false judgment h = h

read_frame : (link : Link) (frame : List ℕ) → IsRead (judge_frame link frame)
read_frame link frame = unless_cut_off (is_link_cut link frame) _ (read_packet (stated_family link frame) (drop
    (link_length link frame) frame))

-- ---- nothing follows the end of a classic capture

unfoldable EndIsLast : List Answer → Type 0
EndIsLast [] = ⊤
EndIsLast (Ok (packet millis frame datagram) ∷ later) = EndIsLast later
EndIsLast (Ok (skipped millis why) ∷ later) = (is_unread why ≡ false) × EndIsLast later
EndIsLast (Ok ended ∷ later) = later ≡ []
EndIsLast (Err fault ∷ later) = EndIsLast later

after_told : (millis : ℕ) (frame : List ℕ) (judgment : Result Datagram Why) (later : List Answer) →
    IsRead judgment → EndIsLast later → EndIsLast (Ok (event_by millis frame judgment) ∷ later)
unfolding EndIsLast
after_told millis frame (Ok datagram) later is h = h
after_told millis frame (Err why) later is h = (is, h)

after_judged : (found : List CaptureFault) (reported : EventSeen) (later : List Answer) → EndIsLast (Ok reported ∷ later) → EndIsLast (unless_fault (judged found reported) (λ it. Ok it ∷ later))
unfolding EndIsLast
after_judged [] reported later h = h
after_judged (one ∷ others) reported later h = tt

end_is_last : (left : ℕ) (format : Format) (bytes : List ℕ) → EndIsLast (records left format bytes)
unfolding EndIsLast records
end_is_last zero format [] = refl
end_is_last zero format (byte ∷ bytes) = tt
end_is_last (suc left) format [] = refl
end_is_last (suc left) format (byte ∷ bytes) =
    let all : List ℕ = byte ∷ bytes in
    let later = records left format (after_record format all) in
    let judgment : Result Datagram Why = judge_frame format.link (frame_of format all) in
    after_judged (record_faults format all) (record_event format all) later
    (after_told (millis_of format (take 16 all)) (frame_of format all) judgment later (read_frame format.link
    (frame_of format all)) (end_is_last left format (after_record format all)))

-- ---- a packet of the same VLAN is taken

same_is_same : (vlan : Vlan) → is_same_vlan vlan vlan ≡ true
same_is_same vlan = ap (λ b. b && vlan.inner == vlan.inner) (eq-eqb vlan.outer vlan.outer refl) ∙ eq-eqb vlan.inner vlan.inner refl

-- the origin of the first packet, if one was taken
abbrev IsFirst : Vlan → Option Origin → Type 0
IsFirst vlan None = ⊤
IsFirst vlan (Some first) = first ≡ of_vlan vlan

unmixed : (vlan : Vlan) (b : Bool) → b ≡ true → judged (fault_if (not b) (Vlans vlan vlan)) true ≡ Ok true
unmixed vlan true e = refl
unmixed vlan false e = absurd (false≢true e)

is_taken : (vlan : Vlan) (first : Option Origin) → IsFirst vlan first → judge_origin no_choice first (of_vlan vlan) ≡ Ok true
is_taken vlan None is = refl
is_taken vlan (Some first) is = ap (λ it. judge_origin no_choice (Some it) (of_vlan vlan)) is ∙ unmixed vlan (is_same_vlan vlan vlan) (same_is_same vlan)

is_first : (vlan : Vlan) (first : Option Origin) → IsFirst vlan first → IsFirst vlan (first_after no_choice first (of_vlan vlan))
is_first vlan None is = refl
is_first vlan (Some first) is = is

-- ---- result by result

fault_alike : (one : CaptureFault) (other : ContainerFault) → SameFault one other → fault_given true other ≡ as_any (Err one)
fault_alike fault.Truncated other e = ap (fault_given true) e
fault_alike fault.TooLong other e = ap (fault_given true) e
fault_alike fault.Read other e = ap (fault_given true) e
fault_alike fault.Magic other e = absurd e
fault_alike fault.LinkType other e = absurd e
fault_alike (fault.LinkNumber number) other e = absurd e
fault_alike fault.Gzip other e = absurd e
fault_alike fault.Block other e = absurd e
fault_alike fault.Time other e = absurd e
fault_alike (fault.InterfaceNames one two) other e = absurd e
fault_alike (fault.Interfaces one two) other e = absurd e
fault_alike (fault.Vlans one two) other e = absurd e
fault_alike fault.Memory other e = absurd e
fault_alike fault.Failed other e = absurd e

none_left : (ones : List Answer) (others : List pieces.Answer) → ones ≡ [] → ExactAnswers ones others → others ≡ []
unfolding ExactAnswers
none_left [] [] none same = refl
none_left [] (other ∷ others) none same = absurd same
none_left (one ∷ ones) others none same = absurd cc

-- what was taken of such a file
abbrev state_of : Option Origin → FileLink → RecordPlace → TakerState
state_of first link place = record {
  choice = no_choice;
  first = first;
  kept = nothing;
  link = link;
  place = place;
  link_of_packet = None;
  is_reported = true;
}

reads_link : (why : Why) (link : FileLink) → is_unread why ≡ false → ending_given (link_with why link) ≡ None
reads_link Cut link is = refl
reads_link NotIp link is = refl
reads_link BadHeader link is = refl
reads_link NotPim link is = refl
reads_link Fragment link is = refl
reads_link Part link is = refl
reads_link NoTime link is = refl
reads_link (LinkType number) link is = absurd (false≢true (sym is))
reads_link (NotChosen chosen_link) link is = refl
reads_link Copy link is = refl
reads_link CutShort link is = refl
reads_link NextFile link is = refl
reads_link (OfLink of) link is = refl
reads_link (Incomplete packets) link is = refl

alike : (vlan : Vlan) (ones : List Answer) (others : List pieces.Answer) (first : Option Origin) (link : FileLink)
    (place : RecordPlace) → IsFirst vlan first → ending_given link ≡ None → EndIsLast ones
    → ExactAnswers ones others → AllByRecursion (IsOfVlan vlan) others →
    chosen (next_files []) true (state_of first link place) others ≡ all_as_any ones
unfolding chosen next_files all_as_any EndIsLast ExactAnswers
alike vlan [] [] first link place is reads last same of = refl
alike vlan [] (other ∷ others) first link place is reads last same of = absurd same
alike vlan (one ∷ ones) [] first link place is reads last same of = absurd same
alike vlan (Err one ∷ ones) (Err other ∷ others) first link place is reads last same of =
    ap (λ it. in_front it (chosen (next_files []) true (state_of first link place) others)) (fault_alike one other
    same.0)
    ∙ ap (in_front (as_any (Err one))) (alike vlan ones others first link place is reads last same.1 of.1)
alike vlan (Err one ∷ ones) (Ok other ∷ others) first link place is reads last same of = absurd same.0
alike vlan (Ok one ∷ ones) (Err other ∷ others) first link place is reads last same of = absurd same.0
alike vlan (Ok ended ∷ ones) (Ok other ∷ others) first link place is reads last same of =
    ap (λ it. chosen (next_files []) true (state_of first link place) (Ok it ∷ others)) same.0
    ∙ ap (λ it. put it (chosen (next_files []) true (state_of first link place) others)) reads
    ∙ ap (chosen (next_files []) true (state_of first link place)) (none_left ones others last same.1)
alike vlan (Ok (skipped millis why) ∷ ones) (Ok other ∷ others) first link place is reads last same of =
    ap (λ it. chosen (next_files []) true (state_of first link place) (Ok it ∷ others)) same.0.1
    ∙ ap (λ it. Ok (skipped millis why) ∷ it)
    (alike vlan ones others first (link_with why link) (next_record place) is (reads_link why link last.0) last.1
    same.1 of.1)
alike vlan (Ok (packet millis frame datagram) ∷ ones) (Ok other ∷ others) first link place is reads last same of =
    let own = same.0.0 in
    let of_it : own ≡ vlan = subst (λ it. IsOfVlan vlan (Ok it)) same.0.1 of.0 in
    let reported : other ≡ any.packet millis (of_vlan vlan) datagram = same.0.1 ∙ ap (λ it. any.packet millis (of_vlan it) datagram) of_it in
    let first' = first_after no_choice first (of_vlan vlan) in
    ap (λ it. chosen (next_files []) true (state_of first link place) (Ok it ∷ others)) reported
    ∙ ap (λ it. in_front (taken_given it (packet millis datagram.payload datagram) (untaken (state_of first link
    place) millis (of_vlan vlan)))
    (chosen (next_files []) true (state_of first' Met (next_record place)) others)) (is_taken vlan first is)
    ∙ ap (λ it. Ok (packet millis datagram.payload datagram) ∷ it) (alike vlan ones others first' Met (next_record
    place) (is_first vlan first is) refl last same.1 of.1)

after_section : (vlan : Vlan) (ones : List Answer) (all : List pieces.Answer) → EndIsLast ones → ExactAfterSection ones all → AllByRecursion (IsOfVlan vlan) all
    → chosen (next_files []) false (taker_of no_choice) all ≡ all_as_any ones
unfolding chosen
after_section vlan ones [] last same of = absurd same
after_section vlan ones (Err fault ∷ others) last same of = absurd same
after_section vlan ones (Ok any.section ∷ others) last same of = alike vlan ones others None Unmet (record {
  file =
      0;
  «record» = 1;
}) tt refl last same of.1
after_section vlan ones (Ok (any.packet millis origin datagram) ∷ others) last same of = absurd same
after_section vlan ones (Ok (any.fragment millis origin datagram part) ∷ others) last same of = absurd same
after_section vlan ones (Ok (any.skipped millis origin why) ∷ others) last same of = absurd same
after_section vlan ones (Ok any.untimed ∷ others) last same of = absurd same
after_section vlan ones (Ok (any.described name) ∷ others) last same of = absurd same
after_section vlan ones (Ok any.passed ∷ others) last same of = absurd same
after_section vlan ones (Ok any.ended ∷ others) last same of = absurd same

pub read_alike : AgreesExactly → (bytes : List ℕ) (format : Format) (vlan : Vlan) → is_section bytes ≡ false → judge_header (take 24 bytes) ≡ Ok format
    → has_plain_frames most_records format (drop 24 bytes) ≡ true →
    AllByRecursion (IsOfVlan vlan) (pieces.answers bytes) →
    answers_by no_choice bytes ≡ all_as_any (answers bytes)
read_alike agrees bytes format vlan classic accepted plain of =
    let ones : answers bytes ≡ records most_records format (drop 24 bytes) = ap (λ it. unless_fault it (λ it. records most_records it (drop 24 bytes))) accepted in
    after_section vlan (answers bytes) (pieces.answers bytes) (subst EndIsLast (sym ones) (end_is_last most_records format (drop 24 bytes))) (agrees bytes format classic accepted plain) of
