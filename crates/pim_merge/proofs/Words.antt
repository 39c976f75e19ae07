-- The words of other modules that the lemmas and answers of this crate cite.
pub use Rattle.pim_addr.specs.Families.{is_same}
pub use Rattle.pim_addr.specs.Faults.{fault_if, judged}
pub use Rattle.pim_addr.specs.Routes.{RouteTable, rp_of}
pub use Rattle.pim_addr.specs.declared.family.AddressFamily.{AddressFamily}
pub use Rattle.pim_capture.specs.Capture.{Answer, EventSeen, after_record, answers, captured_length, ended}
pub use Rattle.pim_capture.specs.Capture.{event_by, frame_of, millis_of, most_captured, most_records, packet}
pub use Rattle.pim_capture.specs.Capture.{record_event, record_faults, skipped, unless_fault}
unfoldable pub use Rattle.pim_capture.specs.Capture.{records}
pub use Rattle.pim_capture.specs.Frame.{Datagram, judge_frame}
pub use Rattle.pim_capture.specs.Header.{judge_header}
pub use Rattle.pim_capture.specs.Next.{CountsReads, FitsRecord, HasLength, IsBy, IsNext, IsRefusal, OnMemory}
pub use Rattle.pim_capture.specs.Next.{PayloadLiesIn, event_seen, first_length, in_front, latest_moment, length_in}
pub use Rattle.pim_capture.specs.Next.{stated_length}
pub use Rattle.pim_capture.specs.declared.event.Event.{Event}
pub use Rattle.pim_capture.specs.declared.event.Event.TheVariants.{End, Packet, Skipped}
pub use Rattle.pim_capture.specs.declared.event.Why.{Why}
pub use Rattle.pim_capture.specs.declared.event.Why.TheVariants.{BadHeader, Copy, Cut, CutShort, Fragment, Incomplete, LinkType}
pub use Rattle.pim_capture.specs.declared.event.Why.TheVariants.{NextFile, NoTime, NotChosen, NotIp, NotPim, OfLink, Part}
pub use Rattle.pim_capture.specs.declared.fault.CaptureFault.{CaptureFault}
pub use Rattle.pim_capture.specs.declared.header.Format.{Format}
pub use Rattle.pim_capture.specs.declared.incomplete.RecordPlace.{RecordPlace}
pub use Rattle.pim_capture.specs.declared.link.Link.{Link}
pub use Rattle.pim_container.specs.Block.{is_section}
pub use Rattle.pim_container.specs.Choice.{choice_of, first_after, first_of, is_same_vlan, judge_origin}
pub use Rattle.pim_container.specs.Next.{coming}
pub use Rattle.pim_container.specs.Room.{Need, needs_of}
pub use Rattle.pim_container.specs.declared.choice.Choice.{Choice}
pub use Rattle.pim_container.specs.declared.event.Origin.{Origin}
pub use Rattle.pim_container.specs.declared.fault.ContainerFault.{ContainerFault}
pub use Rattle.pim_container.specs.declared.reader.ReaderState.{ReaderState}
pub use Rattle.pim_jp.specs.Message.{GroupSet, Message, message_of}
pub use Rattle.pim_jp.specs.Spelling.{Spells, is_star}
pub use Rattle.pim_time.specs.declared.reading.Time.{Time}
pub use Rattle.std.proofs.Common.{Bool, Err, IfErr, IfOk, IfSome, IsSome, List, None, Ok, Option, Result, Some, []}
pub use Rattle.std.proofs.Common.{add-one, add-zero, ap, arith, bytes_eq, cond, drop, eq-eqb, false, get_or}
pub use Rattle.std.proofs.Common.{get_or-drop, if◌then◌else◌, inl, inr, is_some, length, map, max, min, nat_lt, not}
pub use Rattle.std.proofs.Common.{refl, replicate, set, slice_index_or, slice_set, subst, suc, sym, take, true}
pub use Rattle.std.proofs.Common.{unwrap_or, vec_capacity, vec_len, zero, ℕ, ⊎_elim, ◌&&◌, ◌*◌, ◌++◌, ◌+◌, ◌-◌, ◌<◌}
pub use Rattle.std.proofs.Common.{◌==◌, ◌||◌, ◌∙◌, ◌∷◌, ◌≡◌, ◌≤◌, ◌⊎◌}
pub use Rattle.std.proofs.lemmas.Bool.{cases_eq, cases_lt, false≢true}
pub use Rattle.std.proofs.lemmas.Bool.Decides.{nat_tests}
pub use Rattle.std.proofs.lemmas.Grind.{common_steps}
pub use Rattle.std.proofs.lemmas.List.{at_drop_all, at_drop_more, drop-set-lt, drop_all, drop_more, get_or-map}
pub use Rattle.std.proofs.lemmas.List.{get_or-set_same, get_or_default, get_or_past, length-drop, length-set}
pub use Rattle.std.proofs.lemmas.List.{map-set, set-get_or, take_at}
pub use Rattle.std.proofs.lemmas.Result.{IfOk-weaker, err_from_is_err_and}
pub use Rattle.std.proofs.lemmas.Slice.Eq.{bytes_eq-Decides}
pub use Rattle.std.specs.Bool.{⊤}
pub use Rattle.std.specs.List.{AllByRecursion, cons_option, list_any, sum_by}
pub use Rattle.std.specs.Option.{option_map}
pub use Rattle.pim_merge.specs.Census.{content_message, joins_star, message_in, no_names, opened_message, sound}
pub use Rattle.pim_merge.specs.Census.{groups_after, message_of_others, with_message}
unfoldable pub use Rattle.pim_merge.specs.Census.{groups_with}
pub use Rattle.pim_merge.specs.Chosen.{all_failures, all_known, answers_by, answers_of_files}
pub use Rattle.pim_merge.specs.Chosen.{fault_given, fault_of, given, is_cut, known_too, put, reports_first, state_then}
unfoldable pub use Rattle.pim_merge.specs.Chosen.{chosen, next_files}
pub use Rattle.pim_merge.specs.Content.{content_in, datagram_in, ends_in, ends_seen, holds, of_other_family}
pub use Rattle.pim_merge.specs.Lane.{FailsAt, HadAll, HasFailed, IsComing, IsFailedHead, IsLooked, KeepRooms}
pub use Rattle.pim_merge.specs.Lane.{KeepsRoom, LacksHeadRoom, LaneState, coming_on, counted, failures_of}
pub use Rattle.pim_merge.specs.Lane.{head_rank, head_time, lane_at, lane_left, no_lane, rank_at, tallies_of}
pub use Rattle.pim_merge.specs.Lane.{time_at, with_head, without_head}
unfoldable pub use Rattle.pim_merge.specs.Lane.{records_to_come}
pub use Rattle.pim_merge.specs.Looks.{IsReadOrRefused, StillComes}
pub use Rattle.pim_merge.specs.Merge.{Outcome, Taken, after_turn, behind_head, clock_after, clock_by, ending, ends}
pub use Rattle.pim_merge.specs.Merge.{event_rank, event_time, fails, head_of, is_past, moment_of, numbered}
pub use Rattle.pim_merge.specs.Merge.{or_fault, rank_of, sooner, taken, takes, time_by, turn_at, turn_by, turn_or}
pub use Rattle.pim_merge.specs.Merge.{never, past_at, turn, until}
unfoldable pub use Rattle.pim_merge.specs.Merge.{IsMerge, IsMergeBy, earliest_from, fault_from, turn_ranked}
unfoldable pub use Rattle.pim_merge.specs.Missing.{first_without_rp}
pub use Rattle.pim_merge.specs.Next.{CountsFailures, GivesTurn, GivesTurnBy, IsCause, IsFailed, IsNumbered}
pub use Rattle.pim_merge.specs.Next.{KeepsTallies, KeepsTime, LacksMemory, MergeState, with_fault}
pub use Rattle.pim_merge.specs.OneLink.{IsOfVlan, IsWhole, as_any, event_as_any, is_truncated, no_choice}
pub use Rattle.pim_merge.specs.OneLink.{taken_as_any}
unfoldable pub use Rattle.pim_merge.specs.OneLink.{all_as_any}
unfoldable pub use Rattle.pim_merge.specs.Places.{place_of}
pub use Rattle.pim_merge.specs.Slots.{field_of, fits}
unfoldable pub use Rattle.pim_merge.specs.Slots.{added}
pub use Rattle.pim_merge.specs.Source.{Allocates, GrowsWithin, IsGiven, IsLonger, PassesNeeds, StaysComing, Steps}
pub use Rattle.pim_merge.specs.Source.{chosen_failures, chosen_known, chosen_left, cut_left, failed, first_answer}
pub use Rattle.pim_merge.specs.Source.{is_end, later_of, left_of_file, needs_unless, none_left, piece_capacity}
pub use Rattle.pim_merge.specs.Source.{places, read_coming, read_needs, step_count, reports_left, unless_cut}
pub use Rattle.pim_merge.specs.Source.{StaysHeld, read_held}
unfoldable pub use Rattle.pim_merge.specs.Source.{SomeExceeds, begins_with_held, longest}
pub use Rattle.pim_merge.specs.Taker.{TakerState, ending_given, event_given, in_next_file, report_of, reported}
pub use Rattle.pim_merge.specs.Taker.{asks_to_hold, state_after}
pub use Rattle.pim_merge.specs.Tally.{next_place, no_tally, place_next, tallies_with, tally_after, tally_at}
pub use Rattle.pim_merge.specs.Tally.{tally_taken}
unfoldable pub use Rattle.pim_merge.specs.Tally.{tallies_after}
pub use Rattle.pim_merge.specs.declared.clock.Clock.{Clock}
pub use Rattle.pim_merge.specs.declared.merge.MergeFault.{MergeFault}
pub use Rattle.pim_merge.specs.declared.merge.Turn.{Turn}
