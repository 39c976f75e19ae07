-- The words of other modules that the lemmas and answers of this crate cite.
pub use Rattle.pim_down.specs.Hearing.{Event, at_end, creates, creates_by, effect, entry_events, heard_at, is_known}
pub use Rattle.pim_down.specs.Hearing.{is_new, is_rpt, is_rpt_of, is_rpt_on, is_star, is_star_join, key_of}
pub use Rattle.pim_down.specs.Hearing.{list_events, needed, on_own, on_rpts, set_events}
unfoldable pub use Rattle.pim_down.specs.Hearing.{count_new, effects}
pub use Rattle.pim_down.specs.Key.{same_key, source_of}
pub use Rattle.pim_down.specs.Laws.{EchoNamesAMachine, EveryStateHasARun, HearingActsAtEachKey}
pub use Rattle.pim_down.specs.Laws.{HearingKeepsTheOrder, KeysAreDistinct, RunGoesOn, RunHasOneEnd}
pub use Rattle.pim_down.specs.Laws.{RunKeepsItsBounds, RunKeepsTheOrder, SilenceActsAtEachKey}
pub use Rattle.pim_down.specs.Records.{state_of_machine}
unfoldable pub use Rattle.pim_down.specs.Records.{IsAscending, IsBelow, count_on, machine_at}
pub use Rattle.pim_down.specs.Tables.{Start, greater, machine_in}
unfoldable pub use Rattle.pim_down.specs.Tables.{on_end, on_join, on_rpt_prune, on_star_join}
pub use Rattle.pim_down.specs.Time.{Downstream, Runs, after_silence, echoes_at, expiry_after, expiry_due}
pub use Rattle.pim_down.specs.Time.{machine_after, settled_at}
pub use Rattle.pim_down.specs.declared.machines.key.Key.{Key}
pub use Rattle.pim_down.specs.declared.machines.key.What.{What}
pub use Rattle.pim_down.specs.declared.machines.key.What.TheVariants.{Rpt, Source, Star}
pub use Rattle.pim_down.specs.declared.machines.machine.Machine.{Machine}
pub use Rattle.pim_down.specs.declared.machines.machine.State.TheVariants.{Join, Prune, PrunePending}
pub use Rattle.pim_down.specs.declared.machines.step.Step.{Step}
pub use Rattle.pim_down.specs.declared.machines.step.Step.TheVariants.{Echo, Reached}
pub use Rattle.std.proofs.Common.{Bool, List, None, Option, Some, [], ap, arith, cond, eqb, false, length, ltb, map}
pub use Rattle.std.proofs.Common.{max, not, refl, subst, sym, true, ℕ, ◌&&◌, ◌++◌, ◌+◌, ◌-◌, ◌||◌, ◌∙◌, ◌∷◌, ◌≡◌}
pub use Rattle.std.proofs.Common.{◌≤◌}
pub use Rattle.std.proofs.lemmas.Bool.{eq-eqb, eqb-true, false≢true, ltb-false, ltb-true}
pub use Rattle.std.proofs.lemmas.Bool.Decides.{nat_tests}
pub use Rattle.std.proofs.lemmas.List.Folds.{flat_map-map, list_any-append}
pub use Rattle.std.specs.Cmp.{IsEquivalence, nat_eq_equiv}
pub use Rattle.std.specs.Cmp.Lexicographic.{lists_equiv, pointwise, same_text}
pub use Rattle.std.specs.List.{AllByRecursion, flat_map}
unfoldable pub use Rattle.std.specs.List.{IsDistinct}
pub use Rattle.std.specs.Option.{is_some}
pub use Rattle.std.specs.Prelude.{nat_eq, option_map}
pub use Rattle.pim_fresh.specs.Deliveries.{AreAlive, Delivery, IsShorter, earlier_or, is_delivered}
unfoldable pub use Rattle.pim_fresh.specs.Deliveries.{IsTimely, final_moment, first_of, last_of}
pub use Rattle.pim_fresh.specs.Exchange.{Exchange, HasUnitsOnce, has_unit_of, star_at, starts}
unfoldable pub use Rattle.pim_fresh.specs.Exchange.{AreUnits}
pub use Rattle.pim_fresh.specs.Expected.{IsAsExpected, Span, expected, is_waiting, machine_wanted, state_wanted}
pub use Rattle.pim_fresh.specs.Expected.{time_left, unit_at, unit_of, up_to}
unfoldable pub use Rattle.pim_fresh.specs.Expected.{span_of, units_of}
pub use Rattle.pim_fresh.specs.Hearing.{after_message, fresh}
unfoldable pub use Rattle.pim_fresh.specs.Hearing.{Leaves}
pub use Rattle.pim_fresh.specs.Laws.{DemandingHasUnits, EveryHearingReaches, FreshHearing, HasLeft}
pub use Rattle.pim_fresh.specs.Laws.{HearingHasOneEnd, HoldsTheUnits, NeedsTheUnits, NoEchoIsDue}
pub use Rattle.pim_fresh.specs.Laws.{SpanIsOfItsMessage, Stays, StaysAsWanted}
