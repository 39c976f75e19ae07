-- The words of other modules that the lemmas and answers of this crate cite.
pub use Rattle.byteorder.specs.Endian.{big_bytes, big_number}
pub use Rattle.byteorder.specs.Numbers.{big_from-lt, big_number-reads_back}
pub use Rattle.pim_addr.specs.Address.{AreBytes, IsAddress, NumbersAreInOrder, address_length, family_byte}
pub use Rattle.pim_addr.specs.Address.{is_group, is_source, mask_length, number_of}
pub use Rattle.pim_addr.specs.Canonical.{canonical_flags, canonical_group, canonical_unicast}
pub use Rattle.pim_addr.specs.Encoded.{IsGroup, IsSource, IsUnicast, SourceValue, family_faults, group_faults}
pub use Rattle.pim_addr.specs.Encoded.{group_length, mask_faults, masked_address, rpt_bit, source_faults}
pub use Rattle.pim_addr.specs.Encoded.{source_length, source_value, unicast_address, unicast_faults, unicast_length}
pub use Rattle.pim_addr.specs.Encoded.{wildcard_bit}
pub use Rattle.pim_addr.specs.Faults.{fault_if, judged}
pub use Rattle.pim_addr.specs.declared.family.AddressFamily.{AddressFamily}
pub use Rattle.std.proofs.Common.{Bool, Err, IsTrue, List, Ordering, [], ap, append-nil, append_assoc, ap₂, arith}
pub use Rattle.std.proofs.Common.{cond, drop, drop_at, false, get_or, get_or-drop, if◌then◌else◌, inl, inr, length}
pub use Rattle.std.proofs.Common.{length-append, length-drop, length-take-le, ltb, map, min, nat_eq, nat_lt, not}
pub use Rattle.std.proofs.Common.{refl, replicate, rules, set, slice_index, subst, suc, suc-mul, sym, take}
pub use Rattle.std.proofs.Common.{take-append-drop, true, zero, ℕ, ⊎_elim, ◌%◌, ◌&&◌, ◌*◌, ◌++◌, ◌+◌, ◌-◌, ◌/◌, ◌<◌}
pub use Rattle.std.proofs.Common.{◌^◌, ◌||◌, ◌↔◌, ◌∙◌, ◌∷◌, ◌≡◌, ◌≤◌, ◌⊎◌}
pub use Rattle.std.proofs.Math.Nat.{mod-eq_of_lt, mul-le-mul_right, one-mul, pow-le-pow_right}
pub use Rattle.std.proofs.lemmas.Bool.{and_left, and_right, cases_Bool, cases_lt, eq-eqb, eqb-true, le-ltb}
pub use Rattle.std.proofs.lemmas.Bool.{ltb-false, ne_eqb, not-false, or_from, or_parts}
pub use Rattle.std.proofs.lemmas.List.{drop-drop, drop-set, drop_more, get_or-append-add, get_or_default}
pub use Rattle.std.proofs.lemmas.List.{map-append, nil_from_length, take-set, take-take, take_all, take_more_set}
pub use Rattle.std.proofs.lemmas.List.Folds.{flat_map-map, list_any-append, list_any_at, list_any_none}
pub use Rattle.std.proofs.lemmas.List.Sorted.{list_any-IsPermutation, searchable_from_sorted}
pub use Rattle.std.proofs.lemmas.Result.{IfOk-at_ok, err_from_is_err_and}
pub use Rattle.std.specs.Int.{from_bool}
pub use Rattle.std.specs.List.{AllByRecursion, flat_map, list_any}
pub use Rattle.std.specs.List.Sorted.{IsPartitionPoint, IsPermutation, IsSorted, IsSortedBy}
pub use Rattle.std.specs.Ordering.{MatchOrdering, is_eq, is_lt, nat_cmp, ordering_index}
pub use Rattle.std.specs.Prelude.{⊤}
pub use Rattle.pim_jp.specs.Canonical.{IsMessage, IsMessageEntry, IsMessageSet, canonical, canonical_entry}
pub use Rattle.pim_jp.specs.Canonical.{canonical_head, canonical_head_length, canonical_set, canonical_set_length}
unfoldable pub use Rattle.pim_jp.specs.Canonical.{canonical_sets_length}
pub use Rattle.pim_jp.specs.Faults.{address_kind, entry_kinds, faults, faults_of, kinds_at, part_faults}
pub use Rattle.pim_jp.specs.Laws.{ReadsHead, ReadsSet, ReportedBefore, place}
pub use Rattle.pim_jp.specs.Merging.{AreOfBoth, AreSame, Completes}
pub use Rattle.pim_jp.specs.Message.{GroupSet, Message, after_set, counts_of, entry_of, head_of, joined_bytes}
pub use Rattle.pim_jp.specs.Message.{joined_count, message_of, pruned_bytes, pruned_count, set_count, set_of}
unfoldable pub use Rattle.pim_jp.specs.Message.{entries_of, sets_of}
pub use Rattle.pim_jp.specs.Parts.{Part, Shape, body_parts, counts, entry, entry_of_bytes, group, head, is_typeless}
pub use Rattle.pim_jp.specs.Parts.{part_then, rest, upstream}
unfoldable pub use Rattle.pim_jp.specs.Parts.{entry_parts, set_parts}
pub use Rattle.pim_jp.specs.Reading.{AreApart, AreClean, ClashesAt, EntriesPass, Passes, Reports, Stops, StopsAt}
pub use Rattle.pim_jp.specs.Reading.{entry_at, is_in, is_rpt_entry, is_source_entry, kinds_at_place, lists_end}
pub use Rattle.pim_jp.specs.Reading.{lists_then, lone_kinds, own_kinds, set_then}
pub use Rattle.pim_jp.specs.Seen.{entry_seen}
pub use Rattle.pim_jp.specs.Sources.{HasAddress, has_mark, is_among, is_listed}
unfoldable pub use Rattle.pim_jp.specs.Sources.{is_marked}
pub use Rattle.pim_jp.specs.Spelling.{IsEntry, IsHead, IsLegalSet, IsSet, Spells, is_star, same_source, source_of}
unfoldable pub use Rattle.pim_jp.specs.Spelling.{AreEntries, AreSets, star_count}
pub use Rattle.pim_jp.specs.Whole.{set_length}
unfoldable pub use Rattle.pim_jp.specs.Whole.{HoldsSets}
pub use Rattle.pim_jp.specs.declared.entry.Entry.{Entry}
pub use Rattle.pim_jp.specs.declared.entry.Entry.TheVariants.{Rpt, Source, Star}
pub use Rattle.pim_jp.specs.declared.fault.JpFault.{JpFault}
pub use Rattle.pim_jp.specs.declared.fault.JpKind.{JpKind}
pub use Rattle.pim_jp.specs.declared.fault.JpKind.TheVariants.{BothLists, Flags, NotGroup, NotSource, SecondStar}
pub use Rattle.pim_jp.specs.declared.fault.JpKind.TheVariants.{Short, Trailing}
