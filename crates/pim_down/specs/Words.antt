-- The words that the contracts of this crate cite, passed on from one place.
pub use Rattle.pim_jp.specs.Seen.{entry_seen}
pub use Rattle.slab.specs.Slab.{get}
pub use Rattle.sorted_blocks.specs.declared.place.Place.{Place}
pub use Rattle.sorted_slab.specs.Listed.{IsFound, IsItem, IsPlace, at}
pub use Rattle.std.specs.Iterator.{YieldsFirstBy, item_count}
pub use Rattle.std.specs.List.{All, filter, find, flat_map, insert, list_any, remove, slice_get}
pub use Rattle.std.specs.List.Sorted.{IsPartitionPoint, IsPartitionedBy, IsPermutation, IsStableBy}
pub use Rattle.std.specs.Ordering.{nat_cmp, ordering_then}
pub use Rattle.pim_down.specs.After.{beside_rpts, group_after, is_of_group, is_of_group_after, left_behind}
pub use Rattle.pim_down.specs.After.{next_in_group, next_machine}
pub use Rattle.pim_down.specs.Ends.{IsLateStart, pending_end}
unfoldable pub use Rattle.pim_down.specs.Ends.{AreLate, first_end}
pub use Rattle.pim_down.specs.Firing.{FiresTo, et_fires, ppt_fires, step_of}
unfoldable pub use Rattle.pim_down.specs.Firing.{firing}
pub use Rattle.pim_down.specs.Heard.{IsWithin, MayWantMemory, OnFull, OthersStay, heard, needed_for, new_for}
pub use Rattle.pim_down.specs.Hearing.{act, at_end, creates, entry_events, events_of, hearing, is_known, is_new}
pub use Rattle.pim_down.specs.Hearing.{is_rpt, is_rpt_of, is_star_join, key_of, list_events, needed, on_own, on_rpts}
pub use Rattle.pim_down.specs.Hearing.{rpt_count_on, set_events, start_of}
unfoldable pub use Rattle.pim_down.specs.Hearing.{act_all, count_new}
pub use Rattle.pim_down.specs.Key.{address_cmp}
unfoldable pub use Rattle.pim_down.specs.Key.{key_cmp, what_cmp}
pub use Rattle.pim_addr.specs.Routes.{rp_of}
pub use Rattle.pim_down.specs.Ordered.{AreAlike, IsLast, StarsComeFirst, StayButListed, comes_before}
pub use Rattle.pim_down.specs.Ordered.{comes_before_by_source, is_of_rpts_of, source_key_of, source_or_star}
unfoldable pub use Rattle.pim_down.specs.PutOff.{put_off_from, with_run}
pub use Rattle.pim_down.specs.Records.{is_on, recorded, state_of, state_of_machine}
unfoldable pub use Rattle.pim_down.specs.Records.{IsAscending, changed, count_on, each_changed, machine_at}
pub use Rattle.pim_down.specs.Running.{downstream_at, is_over_in, start_after}
unfoldable pub use Rattle.pim_down.specs.Running.{AreOverIn}
pub use Rattle.pim_down.specs.Schedule.{AreKnown, IsFirstBy, IsLookedAt, Numbered, alarm_of, deadline_at}
pub use Rattle.pim_down.specs.Schedule.{deadline_seen, first_in, sooner_of, with_its}
unfoldable pub use Rattle.pim_down.specs.Schedule.{timers_of}
pub use Rattle.pim_down.specs.Seen.{event_seen, events_seen, firing_seen, key_at, key_seen, machine_seen, record_seen}
pub use Rattle.pim_down.specs.Seen.{records_seen, shown, start_seen, step_seen, timed_seen, record_of_seen, waiting_seen}
pub use Rattle.pim_down.specs.Seen.{what_seen}
pub use Rattle.pim_down.specs.Sound.{IsSound, is_temporary}
unfoldable pub use Rattle.pim_down.specs.Sound.{IsSettled}
unfoldable pub use Rattle.pim_down.specs.Space.{HasRoom}
pub use Rattle.pim_down.specs.Stars.{rpt_key}
pub use Rattle.pim_down.specs.Store.{IsKept, IsPlaceOf}
pub use Rattle.pim_down.specs.Tables.{greater}
unfoldable pub use Rattle.pim_down.specs.Tables.{on_join, on_prune, on_rpt_prune, on_star_join}
pub use Rattle.pim_down.specs.Time.{Downstream, IsNextDue, Runs, RunsLooking, after_ppt, echoes_at, had_several}
pub use Rattle.pim_down.specs.Time.{machine_after, on_ppt, record_after}
unfoldable pub use Rattle.pim_down.specs.Time.{fired}
pub use Rattle.pim_down.specs.declared.machines.held.Held.{Held}
pub use Rattle.pim_down.specs.declared.machines.machine.Record.{Record}
pub use Rattle.pim_down.specs.declared.machines.step.Step.TheVariants.{Reached}
pub use Rattle.pim_down.specs.declared.records.deadline.TimerKind.TheVariants.{ExpiryTimer, PendingTimer}
