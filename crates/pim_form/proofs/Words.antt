-- The words of other modules that the lemmas and answers of this crate cite.
pub use Rattle.pim_addr.specs.Address.{AreBytes, IsAddress, IsGroupAddress, IsSourceAddress, is_source}
pub use Rattle.pim_addr.specs.Canonical.{canonical_group}
pub use Rattle.pim_addr.specs.Encoded.{group_length, source_length}
pub use Rattle.pim_addr.specs.Routes.{IsRealRow, IsRouteTable, RouteTable, Row, longer_of, longest, matches, rp_of}
unfoldable pub use Rattle.pim_addr.specs.Routes.{led_to}
pub use Rattle.pim_addr.specs.declared.family.AddressFamily.{AddressFamily}
pub use Rattle.pim_addr.specs.declared.family.AddressFamily.TheVariants.{Ipv4, Ipv6}
pub use Rattle.pim_down.specs.Key.{same_key}
unfoldable pub use Rattle.pim_down.specs.Key.{key_cmp, what_cmp}
pub use Rattle.pim_down.specs.Laws.{KeysAreDistinct}
pub use Rattle.pim_down.specs.Records.{is_on, state_of, state_of_machine}
unfoldable pub use Rattle.pim_down.specs.Records.{IsAscending, IsBelow, count_on, machine_at}
pub use Rattle.pim_down.specs.Sound.{HasSource, IsReal, IsSound}
pub use Rattle.pim_down.specs.Time.{Downstream}
pub use Rattle.pim_down.specs.declared.machines.key.Key.{Key}
pub use Rattle.pim_down.specs.declared.machines.key.What.{What}
pub use Rattle.pim_down.specs.declared.machines.key.What.TheVariants.{Rpt, Source, Star}
pub use Rattle.pim_down.specs.declared.machines.machine.Record.{Record}
pub use Rattle.pim_down.specs.declared.machines.machine.State.{State}
pub use Rattle.pim_frame.specs.Frame.{all_routers, content, join_prune}
pub use Rattle.pim_frame.specs.Seal.{IsSealed, OneChecksum, SomeMessageIsSealed, framed}
pub use Rattle.pim_frame.specs.declared.frame.MessageType.TheVariants.{JoinPrune}
pub use Rattle.pim_jp.specs.Canonical.{IsMessage, IsMessageEntry, IsMessageSet, canonical, canonical_entry}
pub use Rattle.pim_jp.specs.Canonical.{canonical_head, canonical_head_length, canonical_set, canonical_set_length}
unfoldable pub use Rattle.pim_jp.specs.Canonical.{canonical_sets_length}
pub use Rattle.pim_jp.specs.declared.entry.Entry.{Entry}
pub use Rattle.std.proofs.Common.{Bool, Err, IfOk, List, None, Ok, Option, Result, Some, [], add-one, ap}
pub use Rattle.std.proofs.Common.{append_assoc, arith, cond, drop, drop-cons, eqb, false, get_or, if◌then◌else◌}
pub use Rattle.std.proofs.Common.{inl, inr, is_some, length, length-append, map, nat_le, nat_lt, not, option_map}
pub use Rattle.std.proofs.Common.{refl, rules, slice_get, slice_index, subst, suc, sym, take, true, zero, ℕ, ⊎_elim}
pub use Rattle.std.proofs.Common.{◌%◌, ◌&&◌, ◌*◌, ◌++◌, ◌+◌, ◌-◌, ◌/◌, ◌<◌, ◌==◌, ◌^◌, ◌||◌, ◌↔◌, ◌∙◌, ◌∷◌, ◌≡◌}
pub use Rattle.std.proofs.Common.{◌≢◌, ◌≤◌, ◌⊎◌}
pub use Rattle.std.proofs.Math.ListN.{drop_of_length-le}
pub use Rattle.std.proofs.Math.Seq.{drop-append_seam, take-add, take-append_seam, take-length}
pub use Rattle.std.proofs.lemmas.Bool.{and_from, and_parts, cases_lt, eq-eqb, eqb-true, false_from_ne_true}
pub use Rattle.std.proofs.lemmas.Bool.{false≢true, le-leb, le-ltb, leb-true, lt-ltb, ltb-false, ltb-true, ne_eqb}
pub use Rattle.std.proofs.lemmas.Bool.{not-false, true≢false}
pub use Rattle.std.proofs.lemmas.Bool.Decides.{nat_tests}
pub use Rattle.std.proofs.lemmas.Cmp.{nat_cmp_total, nat_list_cmp_total, tied_itself}
pub use Rattle.std.proofs.lemmas.Grind.{flat_map-append}
pub use Rattle.std.proofs.lemmas.List.{append-nil, append_cancel_left, drop-append-le, drop-map, drop-take}
pub use Rattle.std.proofs.lemmas.List.{drop_all, length-drop, length-map, length-take, length-take-le, map-append}
pub use Rattle.std.proofs.lemmas.List.{nil_from_length, take-append-drop, take-append-le, take-map, take-take}
pub use Rattle.std.proofs.lemmas.List.{take_all}
pub use Rattle.std.proofs.lemmas.List.Folds.{flat_map-map}
pub use Rattle.std.proofs.lemmas.List.Sorted.{answers_always, searchable_from_sorted}
pub use Rattle.std.proofs.lemmas.Result.{IfOk-weaker, on_ok_weaker}
pub use Rattle.std.specs.Cmp.Derive.{both_true}
pub use Rattle.std.specs.Cmp.Lexicographic.{slice_cmp, texts_ties}
pub use Rattle.std.specs.Int.{from_bool, to_be_bytes, w16}
pub use Rattle.std.specs.List.{AllByRecursion, filter, flat_map, list_all, list_any}
pub use Rattle.std.specs.List.Sorted.{IsNonDecreasingBy, IsPartitionPoint, IsSortedBy}
unfoldable pub use Rattle.std.specs.List.Sorted.{IsStrictlySortedBy}
pub use Rattle.std.specs.Ordering.{is_eq, is_lt, nat_cmp, ordering_index, ordering_reverse, ordering_then}
pub use Rattle.std.specs.declared.cmp.Ordering.TheVariants.{Equal, Greater, Less}
pub use Rattle.pim_form.specs.Added.{CarriesPart}
pub use Rattle.pim_form.specs.Blocks.{IsSpan, message_seen, messages_seen}
pub use Rattle.pim_form.specs.Collect.{AreOfPort, Takes, added, closed, fresh, of_port, sources_with, star_with}
pub use Rattle.pim_form.specs.Collect.{wants_at, wants_from, with_exception}
unfoldable pub use Rattle.pim_form.specs.Collect.{collected, collected_behind}
pub use Rattle.pim_form.specs.Demanded.{HasDemand, IsDemandedForm}
unfoldable pub use Rattle.pim_form.specs.Demanded.{demanded_form, form_below}
pub use Rattle.pim_form.specs.Drafts.{Becomes, IsDraft, IsLast, Keeps}
pub use Rattle.pim_form.specs.Entries.{canonical_rpt_entry, canonical_source_entry}
pub use Rattle.pim_form.specs.Filling.{Filled, HasRoom, IsFilling}
unfoldable pub use Rattle.pim_form.specs.Filling.{ends_from}
pub use Rattle.pim_form.specs.KeptToward.{IsFront, IsPushed, IsStarPushed, group_toward, has_some, is_reached}
pub use Rattle.pim_form.specs.KeptToward.{star_toward}
unfoldable pub use Rattle.pim_form.specs.KeptToward.{form_toward}
pub use Rattle.pim_form.specs.Laws.{BeginsWith, Outside}
pub use Rattle.pim_form.specs.Merge.{both_groups, both_stars, by_order, common, first_of, group_of, itself, merged}
pub use Rattle.pim_form.specs.Merge.{united}
unfoldable pub use Rattle.pim_form.specs.Merge.{merged_by, merged_into, some_from}
pub use Rattle.pim_form.specs.Messages.{AreCanonical, CarriesRun, CarryRuns, HaveRps, IsRp, IsRpOf, IsWriting}
pub use Rattle.pim_form.specs.Messages.{Writing, excepted_entries, star_entries, written_message, written_set}
pub use Rattle.pim_form.specs.NormalForm.{Agree, AreAscending, AreExceptions, Demand, GroupForm, IsFormOf, IsNormal}
pub use Rattle.pim_form.specs.NormalForm.{IsNormalGroup, WantTheSame, form_wants, group_wants, groups_of, is_empty}
pub use Rattle.pim_form.specs.NormalForm.{is_excepted, is_listed, most_exceptions, same_address}
pub use Rattle.pim_form.specs.Packing.{IsNonempty, IsPacking, StopsBefore, fits, joined, most_groups}
unfoldable pub use Rattle.pim_form.specs.Packing.{AreRuns}
pub use Rattle.pim_form.specs.Parts.{IsFitting, PartHasRps}
unfoldable pub use Rattle.pim_form.specs.Parts.{runs_size}
pub use Rattle.pim_form.specs.Plan.{IsPlan, run_of}
unfoldable pub use Rattle.pim_form.specs.Plan.{AreEnds, parts_from}
pub use Rattle.pim_form.specs.Rows.{AreKept, IsKept, IsWithin, between, exceptions_of, form_seen, place_group}
pub use Rattle.pim_form.specs.Rows.{place_seen, star_of}
pub use Rattle.pim_form.specs.Settled.{IsSettledAt, group_settles, is_in_join, is_joined_at, is_pruned_at, joins_if}
pub use Rattle.pim_form.specs.Settled.{machine_settles, prunes_if, record_settles, rpt_settles, unwanted}
unfoldable pub use Rattle.pim_form.specs.Settled.{group_in}
pub use Rattle.pim_form.specs.TooBig.{star_fits, too_big}
pub use Rattle.pim_form.specs.Toward.{SharedHaveRps, is_group_toward, is_neighbour, is_star_toward, is_toward}
pub use Rattle.pim_form.specs.Toward.{rpf_neighbour, star_rpf_neighbour, toward, via_of}
pub use Rattle.pim_form.specs.TowardLaws.{DemandsAll, GetsAll, StarsHaveRps, demand_toward}
pub use Rattle.pim_form.specs.Units.{WantUnit, empty_message_size, empty_set_size, entry_size, group_units}
pub use Rattle.pim_form.specs.Units.{is_of_group, run_groups, run_size, source_unit, star_unit, star_units}
pub use Rattle.pim_form.specs.Units.{unit_entries, unit_group, units_of}
unfoldable pub use Rattle.pim_form.specs.Units.{groups_behind, run_entries}
pub use Rattle.pim_form.specs.Wants.{is_joined, is_pruned, state_on, wants, wants_on}
unfoldable pub use Rattle.pim_form.specs.Wants.{some_below}
pub use Rattle.pim_form.specs.Writer.{has_bad_address, writer_faults}
pub use Rattle.pim_form.specs.declared.messages.Span.{Span}
pub use Rattle.pim_form.specs.declared.place.GroupPlace.{GroupPlace}
pub use Rattle.pim_form.specs.declared.tree.Tree.{Tree}
