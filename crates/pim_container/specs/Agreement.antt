-- What `pim_capture` returns for a classic file, and what this crate returns for it. `pim_capture`
-- reads Ethernet and raw IP alone, passes over one 802.1Q tag, and reads no fragments and no headers
-- between IPv6 and PIM.
use Rattle.std.specs.Prelude.{◌≡◌, ℕ, zero, suc, Bool, true, false, not, ◌&&◌, ◌||◌, List, [], ◌∷◌, take, drop}
use Rattle.std.specs.Prelude.{Option, None, Some, Result, Ok, Err, ⊤, if◌then◌else◌}
use Rattle.byteorder.specs.Endian.{big_number}
use Rattle.pim_addr.specs.declared.family.AddressFamily.{AddressFamily}
use Rattle.pim_capture.specs.declared.event.Why.{Why}
use Rattle.pim_capture.specs.declared.event.Why.TheVariants.{NotIp, NotPim, Fragment}
use Rattle.pim_capture.specs.declared.fault.CaptureFault.{CaptureFault}
use Rattle.pim_capture.specs.declared.fault.CaptureFault.TheVariants as theirs
use Rattle.pim_capture.specs.declared.header.Format.{Format}
use Rattle.pim_capture.specs.declared.header.Link as layer_type
use Rattle.pim_capture.specs.declared.header.Link.TheVariants as layer
use Rattle.pim_capture.specs.declared.vlan.Vlan.{Vlan}
use Rattle.pim_capture.specs.Frame.{Datagram, is_tagged, judge_frame, link_length, stated_family}
use Rattle.pim_capture.specs.Header as header
use Rattle.pim_capture.specs.Capture as capture
use Rattle.pim_container.specs.declared.fault.ContainerFault.{ContainerFault}
use Rattle.pim_container.specs.declared.fault.ContainerFault.TheVariants as fault
use Rattle.pim_container.specs.declared.event.Origin.{Origin}
use Rattle.pim_container.specs.Link.{is_tag}
use Rattle.pim_container.specs.EventSeen.{EventSeen, packet, fragment, skipped, section, ended}
use Rattle.pim_fragments.specs.Parts.{may_be_part}
use Rattle.pim_container.specs.Block.{is_section}
use Rattle.pim_container.specs.Pieces.{Answer, answers}

-- A result is a packet, a fragment or a skipped frame of this time.
abbrev pub IsAt : ℕ → EventSeen → Type 0
IsAt millis (packet millis' origin datagram) = millis' ≡ millis
IsAt millis (fragment millis' origin datagram part) = millis' ≡ millis
IsAt millis (skipped millis' origin why) = millis' ≡ millis
IsAt millis _ = ⊥

-- A result is a frame of this time that is skipped for this reason.
abbrev pub IsSkipped : ℕ → Why → EventSeen → Type 0
IsSkipped millis why (skipped millis' origin why') = (millis' ≡ millis) × (why' ≡ why)
IsSkipped millis why _ = ⊥

-- A result of `pim_capture` and one of this crate agree. Only a frame that is not IP for
-- `pim_capture`, as one with two tags, one that is not PIM, as one with headers before it, or a
-- fragment may give another result of the same time.
abbrev pub SameEvent : capture.EventSeen → EventSeen → Type 0
SameEvent (capture.packet millis frame datagram) (packet millis' origin datagram') =
    (millis' ≡ millis) × (datagram' ≡ datagram)
SameEvent (capture.packet millis frame datagram) _ = ⊥
SameEvent (capture.skipped millis NotIp) reported = IsAt millis reported
SameEvent (capture.skipped millis NotPim) reported = IsAt millis reported
SameEvent (capture.skipped millis Fragment) reported = IsAt millis reported
SameEvent (capture.skipped millis why) reported = IsSkipped millis why reported
SameEvent capture.ended reported = reported ≡ ended

-- Two faults of records agree.
abbrev pub SameFault : CaptureFault → ContainerFault → Type 0
SameFault theirs.Truncated other = other ≡ fault.Truncated
SameFault theirs.TooLong other = other ≡ fault.TooLong
SameFault theirs.Read other = other ≡ fault.Read
SameFault _ other = ⊥

abbrev pub SameAnswer : capture.Answer → Answer → Type 0
SameAnswer (Ok one) (Ok other) = SameEvent one other
SameAnswer (Err one) (Err other) = SameFault one other
SameAnswer _ _ = ⊥

-- All results agree, one by one.
unfoldable pub SameAnswers : List capture.Answer → List Answer → Type 0
SameAnswers [] [] = ⊤
SameAnswers (one ∷ ones) (other ∷ others) = SameAnswer one other × SameAnswers ones others
SameAnswers _ _ = ⊥

-- The same, after the beginning of the file's only section.
abbrev pub AfterSection : List capture.Answer → List Answer → Type 0
AfterSection ones (Ok section ∷ others) = SameAnswers ones others
AfterSection ones _ = ⊥

-- The results agree for each classic file whose header `pim_capture` accepts. No such file begins
-- as a pcapng file.
abbrev pub AgreesOnClassic : Type 0
AgreesOnClassic = (bytes : List ℕ) (format : Format) → is_section bytes ≡ false
    → header.judge_header (take 24 bytes) ≡ Ok format → AfterSection (capture.answers bytes) (answers bytes)

-- ---- files that are read alike

-- An Ethernet frame has another tag than one of 802.1Q: where `pim_capture` reads the type of what
-- a frame carries, there is the type of a tag.
abbrev pub has_further_tag : layer_type.Link → List ℕ → Bool
has_further_tag layer.Ethernet frame = is_tag (big_number 2 (drop (if is_tagged frame then 16 else 12) frame))
has_further_tag layer.Raw frame = false

-- The packet of this family is an IPv4 fragment, or has headers before PIM, by what `pim_capture`
-- says of it.
abbrev pub part_by : Option AddressFamily → List ℕ → Result Datagram Why → Bool
part_by (Some family) bytes (Err why) = may_be_part family bytes why
part_by family bytes judged = false

-- The same of a frame.
abbrev pub has_part : layer_type.Link → List ℕ → Bool
has_part layer frame =
    part_by (stated_family layer frame) (drop (link_length layer frame) frame) (judge_frame layer frame)

-- There is a fault.
abbrev pub is_faulty : List CaptureFault → Bool
is_faulty [] = false
is_faulty (fault ∷ others) = true

-- No frame is one of these, up to the first record with a fault. At most `left` records are read.
unfoldable pub has_plain_frames : ℕ → Format → List ℕ → Bool
has_plain_frames zero format bytes = true
has_plain_frames (suc left) format bytes =
    capture.is_empty bytes || is_faulty (capture.record_faults format bytes)
    || not (has_further_tag format.link (capture.frame_of format bytes))
    && not (has_part format.link (capture.frame_of format bytes))
    && has_plain_frames left format (capture.after_record format bytes)

-- The origin of a frame with this VLAN, in a classic file over Ethernet or raw IP.
abbrev pub of_vlan : Vlan → Origin
of_vlan vlan = record { interface = 0; name = None; index = 0; vlan = vlan; is_copy = false }

-- A result of `pim_capture` and one of this crate are the same, but for what only one of them says
-- of a frame: the bytes of its record, and its VLAN.
abbrev pub ExactEvent : capture.EventSeen → EventSeen → Type 0
ExactEvent (capture.packet millis frame datagram) reported =
    (vlan : Vlan) × (reported ≡ packet millis (of_vlan vlan) datagram)
ExactEvent (capture.skipped millis why) reported = (vlan : Vlan) × (reported ≡ skipped millis (of_vlan vlan) why)
ExactEvent capture.ended reported = reported ≡ ended

abbrev pub ExactAnswer : capture.Answer → Answer → Type 0
ExactAnswer (Ok one) (Ok other) = ExactEvent one other
ExactAnswer (Err one) (Err other) = SameFault one other
ExactAnswer _ _ = ⊥

-- All results are the same, one by one.
unfoldable pub ExactAnswers : List capture.Answer → List Answer → Type 0
ExactAnswers [] [] = ⊤
ExactAnswers (one ∷ ones) (other ∷ others) = ExactAnswer one other × ExactAnswers ones others
ExactAnswers _ _ = ⊥

-- The same, after the beginning of the file's only section.
abbrev pub ExactAfterSection : List capture.Answer → List Answer → Type 0
ExactAfterSection ones (Ok section ∷ others) = ExactAnswers ones others
ExactAfterSection ones _ = ⊥

-- The results are the same for such a file in which no frame has a further tag, is a fragment or has
-- headers before PIM.
abbrev pub AgreesExactly : Type 0
AgreesExactly = (bytes : List ℕ) (format : Format) → is_section bytes ≡ false
    → header.judge_header (take 24 bytes) ≡ Ok format
    → has_plain_frames capture.most_records format (drop 24 bytes) ≡ true
    → ExactAfterSection (capture.answers bytes) (answers bytes)
