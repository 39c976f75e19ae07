-- The words of other modules that the lemmas and answers of this crate cite.
pub use Rattle.pim_addr.specs.Routes.{rp_of}
pub use Rattle.pim_down.specs.Hearing.{Event, at_end, effect, entry_events, events_of, heard_at, hearing, is_known}
pub use Rattle.pim_down.specs.Hearing.{is_rpt, is_rpt_of, is_rpt_on, is_star_join, key_of, list_events, on_own}
pub use Rattle.pim_down.specs.Hearing.{set_events}
unfoldable pub use Rattle.pim_down.specs.Hearing.{effects}
pub use Rattle.pim_down.specs.Key.{address_cmp, rank, same_key, source_of}
unfoldable pub use Rattle.pim_down.specs.Key.{key_cmp, what_cmp}
pub use Rattle.pim_down.specs.Laws.{HearingActsAtEachKey, KeysAreDistinct}
unfoldable pub use Rattle.pim_down.specs.Records.{IsAscending, IsBelow, machine_at}
pub use Rattle.pim_down.specs.Seen.{event_seen, what_seen}
pub use Rattle.pim_down.specs.Tables.{Start, end_in, join_in, prune_in, rpt_prune_in, star_join_in}
unfoldable pub use Rattle.pim_down.specs.Tables.{on_end, on_join, on_prune, on_rpt_prune, on_star_join}
pub use Rattle.pim_down.specs.declared.machines.key.Key.{Key}
pub use Rattle.pim_down.specs.declared.machines.key.What.{What}
pub use Rattle.pim_down.specs.declared.machines.key.What.TheVariants.{Rpt, Source, Star}
pub use Rattle.pim_down.specs.declared.machines.machine.Machine.{Machine}
pub use Rattle.pim_down.specs.declared.machines.machine.Record.{Record}
pub use Rattle.pim_down.specs.declared.machines.machine.State.{State}
pub use Rattle.std.proofs.Common.{Bool, List, None, Option, Some, [], add-one, ap, append-nil, append_assoc, arith}
pub use Rattle.std.proofs.Common.{cond, drop, eq-eqb, eqb-true, false, filter, find, flat_map, get_or, is_some}
pub use Rattle.std.proofs.Common.{length, map, not, refl, rules, subst, suc, sym, true, unwrap_or, ℕ, ◌&&◌, ◌++◌}
pub use Rattle.std.proofs.Common.{◌<◌, ◌==◌, ◌||◌, ◌∙◌, ◌∷◌, ◌≡◌}
pub use Rattle.std.proofs.lemmas.Bool.{false≢true}
pub use Rattle.std.proofs.lemmas.Cmp.{nat_cmp_total, nat_list_cmp_total, on_total, then_total, tied_itself}
pub use Rattle.std.proofs.lemmas.List.{map-append}
pub use Rattle.std.proofs.lemmas.Result.{on_ok_weaker}
pub use Rattle.std.specs.Cmp.{IsStrictWeakOrder, IsTotalOrder}
pub use Rattle.std.specs.Cmp.Lexicographic.{pointwise, same_text}
pub use Rattle.std.specs.List.{AllByRecursion, list_any}
pub use Rattle.std.specs.List.Sorted.{IsSortedBy, IsStableBy, ties}
unfoldable pub use Rattle.std.specs.List.Sorted.{IsStrictlySortedBy}
pub use Rattle.std.specs.Ordering.{is_eq, is_lt, nat_cmp, ordering_reverse, ordering_then}
pub use Rattle.std.specs.Prelude.{nat_eq}
pub use Rattle.std.specs.declared.cmp.Ordering.{Ordering}
pub use Rattle.std.specs.declared.cmp.Ordering.TheVariants.{Equal, Greater, Less}
pub use Rattle.pim_transitions.specs.Affected.{IsAffected, IsCandidate, candidate_seen, is_affected, is_reached}
pub use Rattle.pim_transitions.specs.Affected.{keys_affected, kind_by, reaches, same_bool, same_held, same_machine}
pub use Rattle.pim_transitions.specs.Affected.{same_pending, transition_seen, transition_to}
unfoldable pub use Rattle.pim_transitions.specs.Affected.{joins_after, transitions_to}
pub use Rattle.pim_transitions.specs.Laws.{CandidatesShowTransitions, TransitionsAreOneList, TransitionsAreThere}
pub use Rattle.pim_transitions.specs.Marks.{AddRptsOf, AddStarsOf, AreStarMarks, HaveRptsOf, IsStarMark}
pub use Rattle.pim_transitions.specs.Marks.{KeepTheirOrder, candidate_of, if_last, is_held_rpt, is_marked}
pub use Rattle.pim_transitions.specs.Marks.{is_repeated, is_star_join_of, rpt_mark, rpt_marks, same_mark}
pub use Rattle.pim_transitions.specs.Marks.{star_reaches}
unfoldable pub use Rattle.pim_transitions.specs.Marks.{Rise, lasts}
pub use Rattle.pim_transitions.specs.Transitions.{AreTransitions, IsTransition, by_state, caused_by, changed_by}
pub use Rattle.pim_transitions.specs.Transitions.{has_transition, keys_of_transitions, kind_of, last_of, number_of}
pub use Rattle.pim_transitions.specs.Transitions.{same_state, state_number}
unfoldable pub use Rattle.pim_transitions.specs.Transitions.{changed_last}
pub use Rattle.pim_transitions.specs.declared.candidate.Candidate.{Candidate}
pub use Rattle.pim_transitions.specs.declared.transition.By.{By}
pub use Rattle.pim_transitions.specs.declared.transition.Transition.{Transition}
