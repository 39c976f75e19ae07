-- The words of other modules that the lemmas and answers of this crate cite.
pub use Rattle.pim_addr.specs.declared.family.AddressFamily.{AddressFamily}
pub use Rattle.pim_capture.specs.Capture.{Answer, EventSeen}
pub use Rattle.pim_device.specs.Device.{AppendsFront, top_count}
pub use Rattle.pim_down.specs.declared.machines.key.What.{What}
pub use Rattle.pim_merge.specs.Content.{content_seen}
pub use Rattle.pim_merge.specs.Ends.{AreFirst, clock_of, end_moment, last_of}
unfoldable pub use Rattle.pim_merge.specs.Ends.{Takes}
pub use Rattle.pim_merge.specs.Merge.{Taken, after_turn, clock_after, ending, event_time, moment_of, takes}
unfoldable pub use Rattle.pim_merge.specs.Merge.{IsMergeBy}
pub use Rattle.pim_merge.specs.Next.{MergeState}
pub use Rattle.pim_merge.specs.Run.{CountsAll, IsTallied, turn_seen}
pub use Rattle.pim_merge.specs.declared.end.End.{End}
pub use Rattle.pim_report.specs.StateText.{IsStateText, WritesState, text_with}
pub use Rattle.pim_report.specs.declared.state_text.Counts.{Counts}
pub use Rattle.pim_router.specs.Course.{RouterReport, echo, refresh, runs_to, verdict}
unfoldable pub use Rattle.pim_router.specs.Course.{IsCourse, Reaches}
pub use Rattle.pim_router.specs.Laws.{EveryListHasACourse, RunHasOneEnd}
pub use Rattle.pim_router.specs.Refreshes.{fires_behind}
unfoldable pub use Rattle.pim_router.specs.Refreshes.{RunsPast}
pub use Rattle.pim_router.specs.State.{RouterState, setup_of}
pub use Rattle.pim_router.specs.Time.{turns_left}
pub use Rattle.pim_router.specs.declared.step.Step.TheVariants.{Echo, Reached, Refresh}
pub use Rattle.pim_run.specs.declared.fault.RunFault.{RunFault}
pub use Rattle.pim_run.specs.declared.fault.RunFault.TheVariants.{Capture, Memory, Output}
pub use Rattle.std.proofs.Common.{Bool, Err, List, None, Ok, Option, Result, Some, [], ap, append-nil, append_assoc}
pub use Rattle.std.proofs.Common.{arith, inl, inr, length, length-append, max, min, refl, rules, subst, suc, sym}
pub use Rattle.std.proofs.Common.{take, zero, ℕ, ◌++◌, ◌+◌, ◌∙◌, ◌∷◌, ◌≡◌, ◌≤◌, ◌⊎◌}
pub use Rattle.std.proofs.KnownBytes.{Appends-nil, Appends-trans}
pub use Rattle.std.proofs.lemmas.List.{length-take, take-append-le, take_all}
pub use Rattle.std.proofs.lemmas.List.Concat.{flat_map-append}
pub use Rattle.std.proofs.lemmas.Result.{err_from_is_err_and}
pub use Rattle.std.specs.Io.KnownBytes.{Appends, Keeps}
pub use Rattle.pim_replay.specs.Events.{Account, Event, Follows, HasBegun, HasWritten, Writes, counted, joined}
pub use Rattle.pim_replay.specs.Events.{nothing, of_event, of_refreshes}
pub use Rattle.pim_replay.specs.Passing.{PassesTime}
unfoldable pub use Rattle.pim_replay.specs.Passing.{Passes}
pub use Rattle.pim_replay.specs.Replay.{Begins, PassesToEnd, Stops, WritesAll, WritesFirst, none_yet}
unfoldable pub use Rattle.pim_replay.specs.Replay.{WritesTurns}
pub use Rattle.pim_replay.specs.Report.{IsReport, Replays, Reports, event_line, lines_of, of_text}
pub use Rattle.pim_replay.specs.Turn.{TakesRecord, WritesTurn, packet_on, skips_in, taken_as, taking}
