-- The words of other modules that the lemmas and answers of this crate cite.
pub use Rattle.pim_addr.specs.declared.family.AddressFamily.{AddressFamily}
pub use Rattle.pim_change.specs.Change.{Action, ChangeUnit, change_at, group_change, lacking, of_source}
pub use Rattle.pim_change.specs.Change.{sources_change, star_change, star_joined, star_pruned, unit_of}
unfoldable pub use Rattle.pim_change.specs.Change.{change, in_order, inserted}
pub use Rattle.pim_change.specs.Written.{GroupActions, excepted_entries, in_front, joined_entries, pruned_entries}
pub use Rattle.pim_change.specs.Written.{rp_entry, set_in_front, written_message, written_set}
unfoldable pub use Rattle.pim_change.specs.Written.{grouped}
pub use Rattle.pim_change.specs.declared.unit.ActionKind.TheVariants.{JoinRpt, JoinSource, PruneRpt, PruneSource}
pub use Rattle.pim_down.specs.Hearing.{Event, at_end, effect, entry_events, event, heard_at, is_known, is_rpt}
pub use Rattle.pim_down.specs.Hearing.{is_rpt_of, is_rpt_on, is_star, is_star_join, key_of, list_events, on_own}
pub use Rattle.pim_down.specs.Hearing.{on_rpts, set_events}
unfoldable pub use Rattle.pim_down.specs.Hearing.{effects}
pub use Rattle.pim_down.specs.Key.{key_cmp, same_key}
pub use Rattle.pim_down.specs.Laws.{HearingActsAtEachKey, HearingKeepsTheOrder, KeysAreDistinct}
pub use Rattle.pim_down.specs.Records.{recorded, state_of_machine}
unfoldable pub use Rattle.pim_down.specs.Records.{IsAscending, IsBelow, machine_at}
pub use Rattle.pim_down.specs.Tables.{Start, greater, machine_in}
unfoldable pub use Rattle.pim_down.specs.Tables.{on_end, on_join, on_prune, on_rpt_prune, on_star_join}
pub use Rattle.pim_down.specs.Time.{Downstream, Runs, after_ppt, echo_of, et_due, expiry_after, expiry_due, fire_et}
pub use Rattle.pim_down.specs.Time.{fire_ppt, machine_after, moves, on_ppt, pending_after, pending_due, ppt_due}
pub use Rattle.pim_down.specs.Time.{record_after, reported, rests, run_on, tick, turn_by, with_records}
unfoldable pub use Rattle.pim_down.specs.Time.{fired, first_due, run_within, turn, with_first}
pub use Rattle.pim_down.specs.declared.machines.key.Key.{Key}
pub use Rattle.pim_down.specs.declared.machines.key.What.{What}
pub use Rattle.pim_down.specs.declared.machines.key.What.TheVariants.{Rpt, Source, Star}
pub use Rattle.pim_down.specs.declared.machines.machine.Machine.{Machine}
pub use Rattle.pim_down.specs.declared.machines.machine.Pending.{Pending}
pub use Rattle.pim_down.specs.declared.machines.machine.Record.{Record}
pub use Rattle.pim_down.specs.declared.machines.machine.State.{State}
pub use Rattle.pim_down.specs.declared.machines.machine.State.TheVariants.{Join, Prune, PrunePending}
pub use Rattle.pim_down.specs.declared.machines.machine.State.TheVariants.{PrunePendingTmp, PruneTmp}
pub use Rattle.pim_down.specs.declared.machines.step.Step.TheVariants.{Echo, Reached}
pub use Rattle.pim_form.specs.NormalForm.{AreAscending, GroupForm, form_wants, group_wants, groups_of, is_excepted}
pub use Rattle.pim_form.specs.NormalForm.{is_listed, same_address}
pub use Rattle.pim_form.specs.Rows.{exceptions_of}
pub use Rattle.pim_form.specs.Settled.{IsSettledAt, joins_if, machine_settles, prunes_if, rpt_settles, unwanted}
unfoldable pub use Rattle.pim_form.specs.Settled.{group_in}
pub use Rattle.pim_fresh.specs.Deliveries.{Delivery, is_delivered}
unfoldable pub use Rattle.pim_fresh.specs.Deliveries.{final_moment}
pub use Rattle.pim_fresh.specs.Exchange.{Exchange, has_unit_of, starts}
pub use Rattle.pim_fresh.specs.Expected.{state_wanted}
pub use Rattle.std.proofs.Common.{Bool, List, None, Option, Some, [], ap, append_assoc, arith, cond, eqb, false}
pub use Rattle.std.proofs.Common.{inl, inr, length, ltb, map, not, option_map, refl, subst, suc, sym, true, zero, ℕ}
pub use Rattle.std.proofs.Common.{◌&&◌, ◌++◌, ◌+◌, ◌-◌, ◌<◌, ◌||◌, ◌∙◌, ◌∷◌, ◌≡◌, ◌≤◌, ◌⊎◌}
pub use Rattle.std.proofs.lemmas.Bool.{eq-eqb, eqb-true, false≢true, ltb-false, ltb-true}
pub use Rattle.std.proofs.lemmas.List.Folds.{list_any-append}
pub use Rattle.std.specs.Cmp.{nat_eq_equiv}
pub use Rattle.std.specs.Cmp.Lexicographic.{lists_equiv, pointwise, same_text, slice_cmp, texts_ties}
pub use Rattle.std.specs.List.{AllByRecursion, filter, flat_map, list_any}
pub use Rattle.std.specs.Option.{is_some}
pub use Rattle.std.specs.Ordering.{is_eq, nat_cmp}
pub use Rattle.std.specs.Prelude.{nat_eq}
pub use Rattle.std.specs.declared.cmp.Ordering.TheVariants.{Equal, Greater, Less}
pub use Rattle.pim_settling.specs.Carrying.{CarriesChange, ExceptionsFollow, IsCarried, carried_if, carried_of}
pub use Rattle.pim_settling.specs.Carrying.{rpt_at, rpt_carried}
unfoldable pub use Rattle.pim_settling.specs.Carrying.{CarriesOnly}
pub use Rattle.pim_settling.specs.Course.{Course, IsHeld, IsOn, IsOnBy, IsPast, IsPending, Within, absent}
pub use Rattle.pim_settling.specs.Course.{after_event, at_the_end, course_heard, course_of_unit, excepted, pruned}
pub use Rattle.pim_settling.specs.Course.{stays, waits}
unfoldable pub use Rattle.pim_settling.specs.Course.{after_events}
pub use Rattle.pim_settling.specs.Hearing.{IsPrunedBy, NoneEnds, NotEnded, Passes}
unfoldable pub use Rattle.pim_settling.specs.Hearing.{Arrives, Hears, course_of}
pub use Rattle.pim_settling.specs.Laws.{ChangeSettles, CoursesAreKept, RunsCarryTheChange, SettledWants}
pub use Rattle.pim_settling.specs.Laws.{WrittenChangeSettles}
pub use Rattle.pim_settling.specs.Runs.{KnowRps, run_events}
unfoldable pub use Rattle.pim_settling.specs.Runs.{AreEventsOf, run_at}
