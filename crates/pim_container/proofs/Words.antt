-- The words of other modules that the lemmas and answers of this crate cite.
pub use Rattle.byteorder.specs.Endian.{big_number, little_number}
pub use Rattle.pim_addr.specs.Faults.{Answers, fault_if, judged}
pub use Rattle.pim_addr.specs.declared.family.AddressFamily.{AddressFamily}
pub use Rattle.pim_capture.specs.Capture.{most_captured, most_records}
unfoldable pub use Rattle.pim_capture.specs.Capture.{records}
pub use Rattle.pim_capture.specs.Frame.{Datagram, ethernet_family, judge_packet, raw_family, version}
pub use Rattle.pim_capture.specs.declared.event.Why.{Why}
pub use Rattle.pim_capture.specs.declared.event.Why.TheVariants.{BadHeader, Cut, Fragment, NotIp, NotPim}
pub use Rattle.pim_fragments.specs.Parts.{Part, part_of, part_or, v4_part, v6_part}
pub use Rattle.pim_device.specs.Device.{ConsumesAtMost, top_count}
pub use Rattle.std.proofs.Common.{Bool, Err, IfSome, List, None, Ok, Option, Result, Some, [], ap, arith, drop}
pub use Rattle.std.proofs.Common.{false, if◌then◌else◌, inl, inr, is_ok, length, max, min, nat_lt, not, refl, subst}
pub use Rattle.std.proofs.Common.{suc, sym, take, true, vec_capacity, vec_len, zero, ℕ, ◌%◌, ◌&&◌, ◌*◌, ◌++◌, ◌+◌}
pub use Rattle.std.proofs.Common.{◌-◌, ◌/◌, ◌<◌, ◌==◌, ◌^◌, ◌||◌, ◌∙◌, ◌∷◌, ◌≡◌, ◌≢◌, ◌≤◌, ◌⊎◌}
pub use Rattle.std.proofs.lemmas.Bool.{false≢true}
pub use Rattle.std.proofs.lemmas.Grind.{common_steps}
pub use Rattle.std.proofs.lemmas.List.{drop-drop, drop-take, drop_all, drop_at, drop_min, length-append}
pub use Rattle.std.proofs.lemmas.List.{length-drop, length-take-le, take-take, take_all, take_at}
pub use Rattle.std.proofs.lemmas.Result.{IfOk-weaker, err_from_is_err_and}
pub use Rattle.std.specs.Io.KnownBytes.{Consumes, IsAtEnd}
pub use Rattle.std.specs.Option.{option_map}
pub use Rattle.pim_container.specs.Agreement.{AfterSection, ExactAfterSection, ExactEvent, IsAt, SameEvent}
pub use Rattle.pim_container.specs.Agreement.{has_further_tag, has_part, is_faulty, of_vlan, part_by}
unfoldable pub use Rattle.pim_container.specs.Agreement.{ExactAnswers, SameAnswers, has_plain_frames}
pub use Rattle.pim_container.specs.Block.{is_section, most_block}
pub use Rattle.pim_container.specs.Classic.{judge_header, record_event}
pub use Rattle.pim_container.specs.EventSeen.{EventSeen, ended, event_seen, family_event, fragment_event, frame_event}
pub use Rattle.pim_container.specs.EventSeen.{part_event, placed_event, section}
pub use Rattle.pim_container.specs.Interface.{HasName, option_code, option_end, settings_of, settings_with}
pub use Rattle.pim_container.specs.Interface.{stamp_millis, units_of}
unfoldable pub use Rattle.pim_container.specs.Interface.{settings_from}
pub use Rattle.pim_container.specs.Link.{after_one, after_two, is_tag, link_of, number, place_of}
pub use Rattle.pim_container.specs.Link.{second_type, tagged, typed_place, untagged_place}
pub use Rattle.pim_container.specs.Next.{BeginsClassic, CountsReads, Describes, FillsAfter, IsNext, IsOfBytes}
pub use Rattle.pim_container.specs.Next.{IsPiece, IsRefusal, NeedsMemory, NeedsToBegin, OnMemory, Reads, TakesPiece}
pub use Rattle.pim_container.specs.Next.{answers_in, behind, in_front}
pub use Rattle.pim_container.specs.Pieces.{Answer, after_piece, answers, classic_answers, container_after}
pub use Rattle.pim_container.specs.Pieces.{extent_of, head_faults, head_length, head_of, interfaces_after}
pub use Rattle.pim_container.specs.Pieces.{judge_beginning, judge_piece, piece_event, piece_faults, piece_length}
pub use Rattle.pim_container.specs.Pieces.{piece_of, unless_fault, unless_faults}
unfoldable pub use Rattle.pim_container.specs.Pieces.{pieces}
pub use Rattle.pim_container.specs.Room.{CountsList, DescribesFirst, DescribesNext, GrowsBy, GrowsFor, LacksRoom}
pub use Rattle.pim_container.specs.Room.{Loses, Need, PassesNeed, Takes, TakesNext, after_header, classic_needs}
pub use Rattle.pim_container.specs.Room.{first_length, first_need, header_need, needs_in, next_length}
pub use Rattle.pim_container.specs.Room.{stated_length, taken_by, unless_any, unless_record}
unfoldable pub use Rattle.pim_container.specs.Room.{needs}
pub use Rattle.pim_container.specs.declared.classic.ClassicFormat.{ClassicFormat}
pub use Rattle.pim_container.specs.declared.container.Container.{Container}
pub use Rattle.pim_container.specs.declared.container.Container.TheVariants.{Blocks, Classic}
pub use Rattle.pim_container.specs.declared.event.ContainerEvent.{ContainerEvent}
pub use Rattle.pim_container.specs.declared.event.ContainerEvent.TheVariants.{End, Section}
pub use Rattle.pim_container.specs.declared.fault.ContainerFault.{ContainerFault}
pub use Rattle.pim_container.specs.declared.fault.ContainerFault.TheVariants.{Truncated}
pub use Rattle.pim_container.specs.declared.interface.Interface.{Interface}
pub use Rattle.pim_container.specs.declared.link.BlockEndianness.{BlockEndianness}
pub use Rattle.pim_container.specs.declared.link.BlockEndianness.TheVariants.{Big, Little}
pub use Rattle.pim_container.specs.declared.piece.FoundPiece.{FoundPiece}
pub use Rattle.pim_container.specs.declared.reader.ReaderState.TheVariants.{Ended, Failed, Pieces, Unbegun}
pub use Rattle.pim_container.specs.declared.reader.ReaderStep.{ReaderStep}
pub use Rattle.pim_container.specs.declared.tags.Carried.{Carried}
