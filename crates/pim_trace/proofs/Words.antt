-- The words of other modules that the lemmas and answers of this crate cite.
pub use Rattle.pim_addr.specs.Faults.{fault_if, judged}
pub use Rattle.pim_addr.specs.Routes.{RouteTable, rp_of}
pub use Rattle.pim_addr.specs.declared.family.AddressFamily.{AddressFamily}
pub use Rattle.pim_capture.specs.Next.{event_seen}
pub use Rattle.pim_capture.specs.declared.incomplete.RecordPlace.{RecordPlace}
pub use Rattle.pim_device.specs.Device.{AppendsAll, AppendsFront, top_count}
pub use Rattle.pim_down.specs.Firing.{et_fires, et_firing, ppt_fires, ppt_firing, step_of}
unfoldable pub use Rattle.pim_down.specs.Firing.{firing}
pub use Rattle.pim_down.specs.Hearing.{Event, events_of, hearing, is_known, start_of}
pub use Rattle.pim_down.specs.Key.{rank, same_key, source_of}
unfoldable pub use Rattle.pim_down.specs.Key.{key_cmp, what_cmp}
pub use Rattle.pim_down.specs.Laws.{FiringSaysMore, HearingKeepsTheOrder, HearingLeavesOtherPorts, KeysAreDistinct}
pub use Rattle.pim_down.specs.Laws.{said_of}
pub use Rattle.pim_down.specs.Records.{recorded, state_of, state_of_machine}
unfoldable pub use Rattle.pim_down.specs.Records.{IsAscending, IsBelow, count_on, machine_at}
pub use Rattle.pim_down.specs.Seen.{firing_seen, key_seen, what_seen}
pub use Rattle.pim_down.specs.Sound.{IsReal, IsSound}
pub use Rattle.pim_down.specs.Tables.{Start, machine_in}
pub use Rattle.pim_down.specs.Time.{Downstream, et_due, expiry_after, expiry_due, fired, machine_after, on_ppt}
pub use Rattle.pim_down.specs.Time.{pending_after, pending_due, ppt_due, record_after, with_records}
unfoldable pub use Rattle.pim_down.specs.Time.{first_due, with_first}
pub use Rattle.pim_down.specs.declared.machines.key.Key.{Key}
pub use Rattle.pim_down.specs.declared.machines.key.What.{What}
pub use Rattle.pim_down.specs.declared.machines.key.What.TheVariants.{Rpt, Source, Star}
pub use Rattle.pim_down.specs.declared.machines.machine.Machine.{Machine}
pub use Rattle.pim_down.specs.declared.machines.machine.Pending.{Pending}
pub use Rattle.pim_down.specs.declared.machines.machine.Record.{Record}
pub use Rattle.pim_down.specs.declared.machines.machine.State.{State}
pub use Rattle.pim_down.specs.declared.machines.step.Firing.{Firing}
pub use Rattle.pim_down.specs.declared.machines.step.Timer.{Timer}
pub use Rattle.pim_down.specs.declared.machines.step.Timer.TheVariants.{Expiry, PrunePending}
pub use Rattle.pim_events.specs.Events.{Happened, Occurrence, cause_seen, hello_heard, join_ignored}
pub use Rattle.pim_events.specs.Events.{machine_changed, neighbour_gone, own_restart, packet_judged, record_skipped}
pub use Rattle.pim_events.specs.declared.event.Cause.{Cause}
pub use Rattle.pim_events.specs.declared.event.Fired.{Fired}
pub use Rattle.pim_events.specs.declared.event.Skip.TheVariants.{NoPacket, OtherFamily}
pub use Rattle.pim_events.specs.declared.event.Skipping.{Skipping}
pub use Rattle.pim_events.specs.declared.event.TransitionEvent.{TransitionEvent}
pub use Rattle.pim_frame.specs.Frame.{Content, content, frame_faults, hello, join_prune, other}
pub use Rattle.pim_frame.specs.declared.frame.FrameFault.{FrameFault}
pub use Rattle.pim_hello.specs.Hello.{Hello, Parameters}
pub use Rattle.pim_hello.specs.Neighbours.{Neighbour, Table, entry_at, is_over, neighbour_at, neighbour_limit}
pub use Rattle.pim_hello.specs.Neighbours.{no_neighbours, passed_to, waited, without_ended}
pub use Rattle.pim_hello.specs.Walk.{neighbour_seen}
pub use Rattle.pim_hello.specs.declared.heard.Heard.{Heard}
pub use Rattle.pim_jp.specs.Message.{GroupSet, Message, message_of}
pub use Rattle.pim_jp.specs.declared.fault.JpFault.{JpFault}
pub use Rattle.pim_merge.specs.Content.{content_seen}
pub use Rattle.pim_merge.specs.Ends.{AreFirst, clock_of, end_moment}
unfoldable pub use Rattle.pim_merge.specs.Ends.{Takes}
pub use Rattle.pim_merge.specs.Merge.{Taken}
pub use Rattle.pim_merge.specs.Next.{MergeState}
pub use Rattle.pim_merge.specs.Run.{CountsAll, IsTallied, turn_seen}
pub use Rattle.pim_merge.specs.declared.end.End.{End}
pub use Rattle.pim_router.specs.Happening.{FiresAfter, FiresTo, Happening, Happens, Passes, at_moment, fired_of}
pub use Rattle.pim_router.specs.Happening.{first_timeout, gone_between, gone_of, happens_then, next_of, timed_out}
pub use Rattle.pim_router.specs.Happening.{timer_fired}
unfoldable pub use Rattle.pim_router.specs.Happening.{gone_from, gone_within, happens_in, in_turns}
pub use Rattle.pim_router.specs.Laws.{EveryStateGoesOn, FiringPasses, HappeningGoesOn, NobodyGoesBeforeFirstTimeout}
pub use Rattle.pim_router.specs.Packets.{Packet, Receives, body_causes, body_heard, causes, hello_causes, knows}
pub use Rattle.pim_router.specs.Packets.{message_causes, message_heard, needed_by, neighbours_on, own_address}
pub use Rattle.pim_router.specs.Packets.{received, room_causes, timing_on, unless}
pub use Rattle.pim_router.specs.Reading.{IsTakenAsRead, Reading, hello_by, message_by, packet_read, read_by}
pub use Rattle.pim_router.specs.Reading.{read_causes, read_fault, read_hello, read_message, read_other}
pub use Rattle.pim_router.specs.Reading.{read_received, reading_seen}
pub use Rattle.pim_router.specs.Sound.{HasTime, IsCurrent, IsRouter}
pub use Rattle.pim_router.specs.State.{RouterState, refresh_period, setup_of, table_at, with_machines, with_refresh}
pub use Rattle.pim_router.specs.State.{with_tables}
pub use Rattle.pim_router.specs.Time.{Outcome, has_ended, moves, reported, rests, stops_with, tick, turn_of_time}
pub use Rattle.pim_router.specs.Time.{turn_of_timers, turns_left}
unfoldable pub use Rattle.pim_router.specs.Time.{turn}
pub use Rattle.pim_router.specs.declared.step.Step.TheVariants.{Echo, Refresh}
pub use Rattle.pim_router.specs.declared.verdict.Verdict.{Verdict}
pub use Rattle.pim_run.specs.Run.{OnTurn}
pub use Rattle.pim_run.specs.declared.fault.RunFault.{RunFault}
pub use Rattle.pim_run.specs.declared.fault.RunFault.TheVariants.{Capture, Memory, Output}
pub use Rattle.pim_run.specs.declared.fault.TurnFault.{TurnFault}
pub use Rattle.pim_transitions.specs.Affected.{IsAffected, transitions_to}
pub use Rattle.pim_transitions.specs.Laws.{TransitionsAreThere}
pub use Rattle.pim_transitions.specs.Transitions.{AreTransitions, IsTransition, has_transition, keys_of_transitions}
pub use Rattle.pim_transitions.specs.declared.transition.Transition.{Transition}
pub use Rattle.std.proofs.Common.{Bool, Err, IfOk, IsErr, List, None, Ok, OnOk, Option, Result, Some, [], ap}
pub use Rattle.std.proofs.Common.{append-nil, append_assoc, arith, cond, drop, eq-eqb, eqb-true, false, filter}
pub use Rattle.std.proofs.Common.{get_or, if◌then◌else◌, inl, inr, length, length-append, ltb, map, max, nat_eq}
pub use Rattle.std.proofs.Common.{nat_lt, not, option_map, refl, subst, suc, sym, take, true, unwrap_or, zero, ℕ}
pub use Rattle.std.proofs.Common.{◌&&◌, ◌*◌, ◌++◌, ◌+◌, ◌-◌, ◌<◌, ◌==◌, ◌∙◌, ◌∷◌, ◌≡◌, ◌≤◌, ◌⊎◌}
pub use Rattle.std.proofs.KnownBytes.{Appends-nil, Appends-trans}
pub use Rattle.std.proofs.lemmas.Bool.{false≢true, le-ltb, lt-leb, lt-ltb, ltb-false, ltb-true, ne_eqb}
pub use Rattle.std.proofs.lemmas.List.{drop_all, drop_more, length-replicate, length-take, map-append}
pub use Rattle.std.proofs.lemmas.List.{take-append-le, take_all}
pub use Rattle.std.specs.BTreeMap.{is_at}
pub use Rattle.std.specs.Cmp.{IsTotalOrder, tied_then, unsigned_tied}
pub use Rattle.std.specs.Cmp.Lexicographic.{pointwise, slice_cmp, texts_ties}
pub use Rattle.std.specs.Io.KnownBytes.{Appends}
pub use Rattle.std.specs.List.{AllByRecursion, flat_map, insert, list_any, remove}
unfoldable pub use Rattle.std.specs.List.Sorted.{IsStrictlySortedBy}
pub use Rattle.std.specs.Map.{keys_of, lookup, remove_entry, set_value}
pub use Rattle.std.specs.Option.{option_eq}
pub use Rattle.std.specs.Ordering.{is_eq, nat_cmp, ordering_reverse, ordering_then}
pub use Rattle.std.specs.Prelude.{IsSome, slice_get, slice_index_or, slice_set}
pub use Rattle.std.specs.declared.cmp.Ordering.{Ordering}
pub use Rattle.std.specs.declared.cmp.Ordering.TheVariants.{Equal, Greater, Less}
pub use Rattle.pim_trace.specs.Causing.{EventsNameTheirPackets, RunsNameCauses, TraceNamesCauses, TurnsNameCauses}
pub use Rattle.pim_trace.specs.Causing.{end_after, end_by, end_of, end_then, ends_pending, key_on, last_of}
pub use Rattle.pim_trace.specs.Causing.{last_setting, packet_of, set_by, sets, since_by}
unfoldable pub use Rattle.pim_trace.specs.Causing.{last_begun, last_set}
pub use Rattle.pim_trace.specs.Folding.{BeginsIn, EventsShowTheState, LeadOn, RunsLeadOn, TurnsShowTheState, names}
pub use Rattle.pim_trace.specs.Folding.{state_then, states_by, states_shown}
unfoldable pub use Rattle.pim_trace.specs.Folding.{IsUnbroken, last_shown}
pub use Rattle.pim_trace.specs.Heard.{AreChangesOf, AreTransitionsOf, HearsPacket, after_own, all_ignored}
pub use Rattle.pim_trace.specs.Heard.{applied_says, as_cause, change_by, change_of, event_on, generation_in}
pub use Rattle.pim_trace.specs.Heard.{generation_of, greeting, ignored_entry, ignored_in, is_pending, judgment}
pub use Rattle.pim_trace.specs.Heard.{message_says, records_after, remembers, restart_of, restarts, says, sent_by}
unfoldable pub use Rattle.pim_trace.specs.Heard.{changes_of}
pub use Rattle.pim_trace.specs.Kept.{causes_seen, ledger_seen}
unfoldable pub use Rattle.pim_trace.specs.Kept.{causes_in, hellos_in}
pub use Rattle.pim_trace.specs.Ledger.{Ledger, both_by, caused, causes_of, epoch_of, forgetting, frame_after}
pub use Rattle.pim_trace.specs.Ledger.{frame_of, moved_by, new_ledger, no_cause, none_skipped, opened, pending_left}
pub use Rattle.pim_trace.specs.Ledger.{same_expiry, same_pending, sent_or_none, with_change, with_hello, with_own}
pub use Rattle.pim_trace.specs.Ledger.{with_skip}
unfoldable pub use Rattle.pim_trace.specs.Ledger.{with_changes}
pub use Rattle.pim_trace.specs.Machines.{Holds, IsPlaceFor, order_of_keys}
unfoldable pub use Rattle.pim_trace.specs.Machines.{IsInKeyOrder, held_for}
pub use Rattle.pim_trace.specs.Passing.{PassesTime, WritesAll, after_happening, cause_of, event_of, fired_by}
pub use Rattle.pim_trace.specs.Passing.{gone_by, time_outs, time_outs_on}
unfoldable pub use Rattle.pim_trace.specs.Passing.{after_all, events_in}
pub use Rattle.pim_trace.specs.Read.{IsForOther, IsNoHello, is_applied, packet_in}
pub use Rattle.pim_trace.specs.Reading.{hello_in, hello_read, message_in, message_read}
pub use Rattle.pim_trace.specs.Trace.{HasSome, IsTrace, RunsOut, RunsUntil, StopsAt, Wrote, WroteFront, ending}
pub use Rattle.pim_trace.specs.Trace.{ledger_for}
unfoldable pub use Rattle.pim_trace.specs.Trace.{WritesTurns, neighbours_in}
pub use Rattle.pim_trace.specs.Turn.{Skips, TakesContent, TakesRecord, WritesTurn, counting, packet_on}
pub use Rattle.pim_trace.specs.Underway.{HasAll, RunsTurns}
pub use Rattle.pim_trace.specs.WrittenEvents.{HasBegun, HasWritten, Writes, text_on}
pub use Rattle.pim_trace.specs.declared.ledger.Causes.{Causes}
pub use Rattle.pim_trace.specs.declared.ledger.Sent.{Sent}
