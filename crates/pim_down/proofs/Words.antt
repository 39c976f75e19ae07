-- The words of other modules that the lemmas and answers of this crate cite.
pub use Rattle.pim_addr.specs.Address.{IsGroupAddress, number_of}
pub use Rattle.pim_addr.specs.declared.family.AddressFamily.{AddressFamily}
pub use Rattle.pim_jp.specs.Canonical.{IsMessage, IsMessageEntry, IsMessageSet}
pub use Rattle.pim_jp.specs.Message.{GroupSet, Message}
pub use Rattle.pim_jp.specs.Seen.{entry_seen}
pub use Rattle.pim_jp.specs.declared.entry.Entry.{Entry}
pub use Rattle.slab.specs.Slab.{Slab, get}
pub use Rattle.sorted_blocks.specs.Found.{IsEqualAt, IsGap}
pub use Rattle.sorted_blocks.specs.Places.{before}
pub use Rattle.sorted_blocks.specs.Shape.{Shape, items}
unfoldable pub use Rattle.sorted_blocks.specs.Shape.{cut, spliced}
pub use Rattle.sorted_blocks.specs.declared.place.Place.{Place}
pub use Rattle.sorted_slab.specs.Listed.{IsFound, IsItem, IsPlace, Listed, at, numbers}
pub use Rattle.std.proofs.Common.{Bool, Err, IsTrue, List, None, Ok, OnErr, OnOk, Option, Result, Some, [], add-one}
pub use Rattle.std.proofs.Common.{ap, ap₂, arith, cond, drop, eqb, false, get_or, inl, inr, leb, length, length-append}
pub use Rattle.std.proofs.Common.{lit<, ltb, map, max, min, nat_eq, not, option_map, refl, replicate, rules, set}
pub use Rattle.std.proofs.Common.{subst, suc, sum_by, sym, take, true, zero, ℕ, ◌&&◌, ◌*◌, ◌++◌, ◌+◌, ◌-◌, ◌<◌, ◌==◌}
pub use Rattle.std.proofs.Common.{◌||◌, ◌↔◌, ◌∙◌, ◌∷◌, ◌≡◌, ◌≢◌, ◌≤◌, ◌⊎◌}
pub use Rattle.std.proofs.lemmas.Bool.{and_from, and_parts, eq-eqb, eqb-false, eqb-true, false_from_ne_true}
pub use Rattle.std.proofs.lemmas.Bool.{false≢true, le-ltb, lt-ltb, ltb-false, ltb-true, ne_eqb, or_from, or_left}
pub use Rattle.std.proofs.lemmas.Bool.{or_parts, or_right, true≢false}
pub use Rattle.std.proofs.lemmas.Bool.Decides.{nat_tests}
pub use Rattle.std.proofs.lemmas.Cmp.{alike_right, nat_cmp_total, nat_list_cmp_total, on_total, then_total}
pub use Rattle.std.proofs.lemmas.Cmp.{tied_itself, upto}
pub use Rattle.std.proofs.lemmas.Fn.{always_returns_same}
pub use Rattle.std.proofs.lemmas.Grind.{flat_map-append, get_or-set_at}
pub use Rattle.std.proofs.lemmas.List.{append-nil, append_assoc, drop-append-le, drop-drop, drop-map, drop_all}
pub use Rattle.std.proofs.lemmas.List.{drop_at, drop_more, get_or-drop, get_or-map, get_or-set_other, get_or-take}
pub use Rattle.std.proofs.lemmas.List.{length-drop, length-map, length-set, length-take, length-take-le, map-append}
pub use Rattle.std.proofs.lemmas.List.{set_split, take-append-drop, take-map, take-take, take_all, take_at, take_more}
pub use Rattle.std.proofs.lemmas.List.Edits.{get_or-insert_above, get_or-insert_at, get_or-remove_above}
pub use Rattle.std.proofs.lemmas.List.Edits.{length-insert, length-remove}
pub use Rattle.std.proofs.lemmas.List.Elements.{All-cons, All-nil, All-take, recursion_from_All}
pub use Rattle.std.proofs.lemmas.List.Folds.{Any-from_list_any, list_any-append}
pub use Rattle.std.proofs.lemmas.List.Quantifiers.{position-Some}
pub use Rattle.std.proofs.lemmas.List.Sorted.{IsNonDecreasingBy-drop, IsPartitionedBy-ltb, IsPermutation-map}
pub use Rattle.std.proofs.lemmas.List.Sorted.{list_any-IsPermutation, ranks_by, sum_by-IsPermutation}
pub use Rattle.std.proofs.lemmas.List.Sums.{fails_before_first, position_or_len_is, sum_by-cons}
pub use Rattle.std.proofs.lemmas.Option.{slice_get-get_or, slice_get_past}
pub use Rattle.std.proofs.lemmas.Result.{on_ok_weaker}
pub use Rattle.std.specs.Borrow.{Bor}
pub use Rattle.std.specs.Cmp.{IsStrictWeakOrder, IsTotalOrder, nat_cmp_is}
pub use Rattle.std.specs.Cmp.Lexicographic.{pointwise, same_text}
pub use Rattle.std.specs.FinMap.{nat_cmp-IsAntisymmetric, slice_cmp-IsAntisymmetric}
pub use Rattle.std.specs.Fn.{Called, ComparesAs, Mut}
pub use Rattle.std.specs.Int.{from_bool}
pub use Rattle.std.specs.List.{All, AllByRecursion, filter, find, flat_map, insert, list_any, position}
pub use Rattle.std.specs.List.{position_or_len, remove, slice_get}
pub use Rattle.std.specs.List.Sorted.{IsNonDecreasingBy, IsPartitionPoint, IsPartitionedBy, IsPermutation, IsStableBy}
pub use Rattle.std.specs.List.Sorted.{ties}
pub use Rattle.std.specs.Option.{is_some, option_copied}
pub use Rattle.std.specs.Ordering.{is_eq, is_gt, is_le, is_lt, nat_cmp, ordering_reverse, ordering_then}
pub use Rattle.std.specs.Prelude.{is_err}
pub use Rattle.std.specs.declared.cmp.Ordering.{Ordering}
pub use Rattle.std.specs.declared.cmp.Ordering.TheVariants.{Equal, Greater, Less}
pub use Rattle.pim_down.specs.After.{MachinesLeft, beside_rpts, group_after, is_above, is_before_groups}
pub use Rattle.pim_down.specs.After.{is_before_rpts, is_machine_after, is_of_group, is_of_group_after, is_up_to}
pub use Rattle.pim_down.specs.After.{left_behind, next_in_group, next_machine}
pub use Rattle.pim_down.specs.Ends.{IsLate, IsLateStart, IsQuietUntil, ends_by, pending_end, pending_weight, sooner}
unfoldable pub use Rattle.pim_down.specs.Ends.{AreLate, first_end, weight}
pub use Rattle.pim_down.specs.Firing.{FiresTo, et_fires, et_firing, fired_in, firing_in, ppt_fires, ppt_firing}
pub use Rattle.pim_down.specs.Firing.{step_of}
unfoldable pub use Rattle.pim_down.specs.Firing.{firing}
pub use Rattle.pim_down.specs.Heard.{IsWithin, MayWantMemory, heard, needed_for, new_for}
pub use Rattle.pim_down.specs.Hearing.{Event, act, at_end, creates, creates_by, effect, entry_events, events_of}
pub use Rattle.pim_down.specs.Hearing.{heard_at, hearing, is_known, is_new, is_rpt, is_rpt_of, is_rpt_on, is_star}
pub use Rattle.pim_down.specs.Hearing.{is_star_join, key_of, list_events, needed, on_own, on_rpts, rpt_count_on}
pub use Rattle.pim_down.specs.Hearing.{set_events, start_of}
unfoldable pub use Rattle.pim_down.specs.Hearing.{act_all, count_new, effects}
pub use Rattle.pim_down.specs.Key.{address_cmp, rank, same_key, source_of}
unfoldable pub use Rattle.pim_down.specs.Key.{key_cmp, what_cmp}
pub use Rattle.pim_addr.specs.Routes.{rp_of}
pub use Rattle.pim_down.specs.Laws.{FiringHasOneEnd, RunIsAChainOfFirings, said_of}
pub use Rattle.pim_down.specs.Ordered.{AreAlike, IsLast, StarsComeFirst, StayButListed, comes_before_by_source}
pub use Rattle.pim_down.specs.Ordered.{entry_of_event, entry_of_what, is_of_rpts_of, source_key_of, source_or_star}
unfoldable pub use Rattle.pim_down.specs.Ordered.{ComeFirstBehind}
pub use Rattle.pim_down.specs.Places.{StandsAt, WouldStandAt, is_below}
pub use Rattle.pim_down.specs.PutOff.{alarm_at, put_off}
unfoldable pub use Rattle.pim_down.specs.PutOff.{Ascend, put_off_from, with_run}
pub use Rattle.pim_down.specs.Records.{at_rank, is_on, recorded, state_of, state_of_machine}
unfoldable pub use Rattle.pim_down.specs.Records.{IsAscending, IsBelow, changed, count_on, each_changed, machine_at}
pub use Rattle.pim_down.specs.Refresh.{is_join, is_joined_until, is_of_source, is_source_of, is_time, names_joined}
unfoldable pub use Rattle.pim_down.specs.Refresh.{AreJoinedUntil}
pub use Rattle.pim_down.specs.Running.{downstream_at, is_over, is_over_in, start_after}
unfoldable pub use Rattle.pim_down.specs.Running.{AreOverIn, is_joined_in}
pub use Rattle.pim_down.specs.Schedule.{AlarmList, AreKnown, IsTimed, Numbered, alarm_of, deadline_at, deadline_seen}
pub use Rattle.pim_down.specs.Schedule.{end_of, first_in, key_order, sooner_of, timer_rank, with_alarm, with_end}
pub use Rattle.pim_down.specs.Schedule.{alarm_seen, with_its}
unfoldable pub use Rattle.pim_down.specs.Schedule.{IsInOrder, IsLow, alarm_cmp, alarm_order, deadline_cmp, numbered}
unfoldable pub use Rattle.pim_down.specs.Schedule.{placed, timers_of, without}
pub use Rattle.pim_down.specs.Seen.{event_seen, firing_seen, key_at, key_seen, machine_seen, record_seen, records_seen}
pub use Rattle.pim_down.specs.Seen.{shown, start_seen, step_seen, timed_seen, what_seen}
pub use Rattle.pim_down.specs.Sound.{HasSource, IsReal, IsSound, has_state, is_pending, is_temporary}
pub use Rattle.pim_down.specs.Sound.{joined_or_pending}
unfoldable pub use Rattle.pim_down.specs.Sound.{IsSettled}
unfoldable pub use Rattle.pim_down.specs.Space.{HasRoom}
pub use Rattle.pim_down.specs.Stars.{AllStay, StayBut, Stays, is_prune_of, is_pruned_by, rpt_key}
pub use Rattle.pim_down.specs.Store.{IsKept, IsPlaceOf, NoneBefore, side}
pub use Rattle.pim_down.specs.Tables.{Start, end_in, greater, join_in, prune_in, rpt_prune_in, star_join_in}
unfoldable pub use Rattle.pim_down.specs.Tables.{on_end, on_join, on_prune, on_rpt_prune, on_star_join}
pub use Rattle.pim_down.specs.Time.{Downstream, HasRun, IsEchoOf, IsNextDue, IsQuietFor, Outcome, Runs, RunsLooking}
pub use Rattle.pim_down.specs.Time.{after_et, after_ppt, after_silence, echo_of, echoes, echoes_at, et_due}
pub use Rattle.pim_down.specs.Time.{expiry_after, expiry_due, fire_et, fire_ppt, had_several, is_due_after}
pub use Rattle.pim_down.specs.Time.{machine_after, moves, on_ppt, pending_after, pending_due, ppt_due, record_after}
pub use Rattle.pim_down.specs.Time.{rests, run_on, settled_at, tick, reported, turn_by, with_records}
unfoldable pub use Rattle.pim_down.specs.Time.{fired, fires_within, first_due, run_within, ticks, turn, with_first}
pub use Rattle.pim_down.specs.declared.machines.event.Timing.{Timing}
pub use Rattle.pim_down.specs.declared.machines.fault.HearFault.{HearFault}
pub use Rattle.pim_down.specs.declared.machines.held.Held.{Held}
pub use Rattle.pim_down.specs.declared.machines.held.Timed.{Timed}
pub use Rattle.pim_down.specs.declared.machines.key.Key.{Key}
pub use Rattle.pim_down.specs.declared.machines.key.What.{What}
pub use Rattle.pim_down.specs.declared.machines.key.What.TheVariants.{Rpt, Source, Star}
pub use Rattle.pim_down.specs.declared.machines.machine.Machine.{Machine}
pub use Rattle.pim_down.specs.declared.machines.machine.Pending.{Pending}
pub use Rattle.pim_down.specs.declared.machines.machine.Record.{Record}
pub use Rattle.pim_down.specs.declared.machines.machine.State.{State}
pub use Rattle.pim_down.specs.declared.machines.machine.State.TheVariants.{Join, Prune, PrunePending, PrunePendingTmp}
pub use Rattle.pim_down.specs.declared.machines.machine.State.TheVariants.{PruneTmp}
pub use Rattle.pim_down.specs.declared.machines.step.Firing.{Firing}
pub use Rattle.pim_down.specs.declared.machines.step.Step.{Step}
pub use Rattle.pim_down.specs.declared.machines.step.Step.TheVariants.{Echo, Reached}
pub use Rattle.pim_down.specs.declared.records.deadline.Alarm.{Alarm}
pub use Rattle.pim_down.specs.declared.records.deadline.Deadline.{Deadline}
pub use Rattle.pim_down.specs.declared.records.deadline.TimerKind.{TimerKind}
pub use Rattle.pim_down.specs.declared.records.deadline.TimerKind.TheVariants.{ExpiryTimer, PendingTimer}
