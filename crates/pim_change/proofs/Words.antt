-- The words of other modules that the lemmas and answers of this crate cite.
pub use Rattle.pim_addr.specs.Routes.{rp_of}
pub use Rattle.pim_addr.specs.declared.family.AddressFamily.{AddressFamily}
pub use Rattle.pim_addr.specs.declared.family.AddressFamily.TheVariants.{Ipv4, Ipv6}
pub use Rattle.pim_form.specs.Laws.{OnePacking, SealedMessageIsRead, UnitsPackIfEachFits}
pub use Rattle.pim_form.specs.Messages.{HaveRps, IsRp, IsRpOf, IsWriting, Writing}
pub use Rattle.pim_form.specs.NormalForm.{AreAscending, AreExceptions, GroupForm, IsNormal, IsNormalGroup}
pub use Rattle.pim_form.specs.NormalForm.{groups_of, is_listed, same_address}
pub use Rattle.pim_form.specs.Packing.{IsNonempty, IsPacking, StopsBefore, fits, joined, most_groups}
unfoldable pub use Rattle.pim_form.specs.Packing.{AreRuns}
pub use Rattle.pim_form.specs.Rows.{exceptions_of}
pub use Rattle.pim_form.specs.Settled.{unwanted}
unfoldable pub use Rattle.pim_form.specs.Settled.{group_in}
pub use Rattle.pim_form.specs.Units.{WantUnit, empty_set_size, entry_size, is_of_group, run_groups, run_size}
pub use Rattle.pim_form.specs.Units.{source_unit, star_unit, unit_entries, unit_group}
unfoldable pub use Rattle.pim_form.specs.Units.{groups_behind, run_entries}
pub use Rattle.pim_frame.specs.Frame.{all_routers}
pub use Rattle.pim_frame.specs.Seal.{OneChecksum, SomeMessageIsSealed, checksum, framed}
pub use Rattle.pim_frame.specs.declared.frame.MessageType.TheVariants.{JoinPrune}
pub use Rattle.pim_jp.specs.Canonical.{IsMessage, IsMessageEntry, IsMessageSet, canonical, canonical_head_length}
pub use Rattle.pim_jp.specs.Canonical.{canonical_set}
unfoldable pub use Rattle.pim_jp.specs.Canonical.{canonical_sets_length}
pub use Rattle.pim_jp.specs.Message.{GroupSet, Message}
pub use Rattle.pim_jp.specs.Seen.{entry_seen}
pub use Rattle.pim_jp.specs.Spelling.{same_source}
unfoldable pub use Rattle.pim_jp.specs.Spelling.{star_count}
pub use Rattle.pim_jp.specs.declared.entry.Entry.{Entry}
pub use Rattle.pim_jp.specs.declared.entry.Entry.TheVariants.{Rpt, Source, Star}
pub use Rattle.std.proofs.Common.{Bool, IsTrue, List, None, Option, Ordering, Some, [], ap, append-nil}
pub use Rattle.std.proofs.Common.{append_assoc, arith, cond, drop, false, get_or, length, length-append}
pub use Rattle.std.proofs.Common.{length-drop, map, nat_le, not, refl, subst, suc, sym, take, true, zero, ℕ, ◌&&◌}
pub use Rattle.std.proofs.Common.{◌*◌, ◌++◌, ◌+◌, ◌-◌, ◌<◌, ◌^◌, ◌||◌, ◌↔◌, ◌∙◌, ◌∷◌, ◌≡◌, ◌≤◌}
pub use Rattle.std.proofs.lemmas.Bool.{and_from, and_parts, both_ways, false≢true, le-leb, leb-true, not-true}
pub use Rattle.std.proofs.lemmas.Cmp.{nat_list_cmp_total, tied_itself}
pub use Rattle.std.proofs.lemmas.List.{drop-drop, drop_all, drop_more, length-map, map-append, take-append-drop}
pub use Rattle.std.proofs.lemmas.List.{take_more}
pub use Rattle.std.proofs.lemmas.Result.{on_ok_weaker}
pub use Rattle.std.specs.Cmp.Lexicographic.{slice_cmp, texts_ties}
pub use Rattle.std.specs.List.{AllByRecursion, filter, flat_map, list_any}
unfoldable pub use Rattle.std.specs.List.Sorted.{IsStrictlySortedBy}
pub use Rattle.std.specs.Option.{is_some}
pub use Rattle.std.specs.Ordering.{is_eq, nat_cmp, ordering_reverse}
pub use Rattle.std.specs.Prelude.{if◌then◌else◌}
pub use Rattle.std.specs.declared.cmp.Ordering.TheVariants.{Equal, Greater, Less}
pub use Rattle.pim_change.specs.Change.{Action, ChangeUnit, about, change_at, group_change, lacking, of_source}
pub use Rattle.pim_change.specs.Change.{sources_change, star_change, star_joined, star_pruned, unit_of}
unfoldable pub use Rattle.pim_change.specs.Change.{change, in_order, inserted}
pub use Rattle.pim_change.specs.Laws.{AddressesAreInOrder, ChangeHasMessagesUnlessTooBig, ChangeIsRead}
pub use Rattle.pim_change.specs.Laws.{ChangeMessagesAreShort, NewStarsAloneAreTooBig, OneListOfChange}
unfoldable pub use Rattle.pim_change.specs.Laws.{AreReadAsRuns}
pub use Rattle.pim_change.specs.Seen.{action_seen, actions_seen, unit_seen, units_seen}
pub use Rattle.pim_change.specs.TooBig.{action_fits, star_change_fits}
unfoldable pub use Rattle.pim_change.specs.TooBig.{too_big}
pub use Rattle.pim_change.specs.Written.{CarriesRun, CarryChange, CarryRuns, CarryUnits, GroupActions, IsPacked}
pub use Rattle.pim_change.specs.Written.{IsShort, actions_of, excepted_entries, in_front, joined_entries}
pub use Rattle.pim_change.specs.Written.{pruned_entries, rp_entry, set_in_front, set_size, weight, weight_of}
pub use Rattle.pim_change.specs.Written.{weights, written_message, written_set, written_sets}
unfoldable pub use Rattle.pim_change.specs.Written.{grouped}
pub use Rattle.pim_change.specs.declared.unit.Action.TheVariants.{JoinStar, Of}
pub use Rattle.pim_change.specs.declared.unit.ActionKind.{ActionKind}
pub use Rattle.pim_change.specs.declared.unit.ActionKind.TheVariants.{JoinRpt, JoinSource, PruneRpt, PruneSource}
pub use Rattle.pim_change.specs.declared.unit.Unit.{Unit}
