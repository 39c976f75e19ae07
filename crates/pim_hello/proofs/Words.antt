-- The words of other modules that the lemmas and answers of this crate cite.
pub use Rattle.byteorder.specs.Endian.{big_bytes, big_number}
pub use Rattle.pim_addr.specs.Address.{address_length, family_byte}
pub use Rattle.pim_addr.specs.Encoded.{unicast_address, unicast_faults, unicast_length}
pub use Rattle.pim_addr.specs.Faults.{fault_if, judged}
pub use Rattle.pim_addr.specs.declared.family.AddressFamily.{AddressFamily}
pub use Rattle.pim_addr.specs.declared.family.AddressFamily.TheVariants.{Ipv4, Ipv6}
pub use Rattle.std.proofs.Common.{Bool, Err, List, None, Ok, Option, Result, Some, [], ap, append_assoc, arith}
pub use Rattle.std.proofs.Common.{cond, drop, eqb, false, inl, inr, leb, length, length-append, length-drop, refl}
pub use Rattle.std.proofs.Common.{rules, subst, suc, sym, take, true, zero, ℕ, ⊎_elim, ◌*◌, ◌++◌, ◌+◌, ◌-◌, ◌<◌}
pub use Rattle.std.proofs.Common.{◌∙◌, ◌∷◌, ◌≡◌, ◌≤◌}
pub use Rattle.std.proofs.lemmas.Bool.{and_from, and_parts, cases_Bool, cases_lt, cond-false, cond-true, eq-eqb}
pub use Rattle.std.proofs.lemmas.Bool.{eqb-false, eqb-true, false_from_ne_true, false≢true, le-leb, le-ltb}
pub use Rattle.std.proofs.lemmas.Bool.{leb-true, lt-leb, ltb-false, ne_eqb, not-false}
pub use Rattle.std.proofs.lemmas.Grind.{common_steps}
pub use Rattle.std.proofs.lemmas.List.{append-nil, drop_at, length-take, map-append, take_at, take_more}
pub use Rattle.std.proofs.lemmas.List.Elements.{recursion_from_All}
pub use Rattle.std.proofs.lemmas.Map.Keys.{IsDistinct-from_sorted, le_from_not_gt}
pub use Rattle.std.proofs.lemmas.Map.Lookups.{exact_bytes}
pub use Rattle.std.proofs.lemmas.Map.Views.{All-found}
pub use Rattle.std.specs.BTreeMap.{BTreeMap, IsOrdered, insert_entry, is_at, values}
pub use Rattle.std.specs.Cmp.{Equal-is, IsTotalOrder, eq_by_cmp_equiv, tied_then, unsigned_tied}
pub use Rattle.std.specs.Cmp.Lexicographic.{nat_list_cmp_total, slice_cmp}
pub use Rattle.std.specs.List.{AllByRecursion, flat_map, list_all, list_any}
unfoldable pub use Rattle.std.specs.List.Sorted.{IsStrictlySortedBy}
pub use Rattle.std.specs.Map.{keys_of, lookup, remove_entry, values_of}
pub use Rattle.std.specs.Option.{IfNone}
pub use Rattle.std.specs.Ordering.{eq_by_cmp, is_eq, is_gt, is_lt, match_ordering, nat_cmp, ordering_reverse}
pub use Rattle.std.specs.Ordering.{ordering_then}
pub use Rattle.std.specs.Prelude.{IfSome, filter, is_some, map, max, min, nat_le, not, option_map, ◌&&◌, ◌==◌, ◌||◌}
pub use Rattle.std.specs.declared.cmp.Ordering.{Ordering}
pub use Rattle.std.specs.declared.cmp.Ordering.TheVariants.{Equal, Greater, Less}
pub use Rattle.pim_hello.specs.Delays.{delays_seen}
pub use Rattle.pim_hello.specs.Faults.{faults, faults_of, has_other_length, kinds_at, number_of, part_faults}
pub use Rattle.pim_hello.specs.Hello.{Delays, Hello, Parameters}
pub use Rattle.pim_hello.specs.Index.{AddsEnd, IndexesEnds, NoneEnded, RemovesEnd, by_end, end_kept, ended_by}
pub use Rattle.pim_hello.specs.Index.{ends_at, has_end, kept_ends_at}
unfoldable pub use Rattle.pim_hello.specs.Index.{least_end}
pub use Rattle.pim_hello.specs.Interval.{all_sent_delays, delays_sent, greatest, jp_override_interval}
pub use Rattle.pim_hello.specs.Kept.{entry_seen, hello_of_kept, kept_seen, parameters_seen, table_seen}
pub use Rattle.pim_hello.specs.KeptDelays.{ComesTo}
pub use Rattle.pim_hello.specs.Laws.{ExactlyTheEndedGo, ExpiringTwiceIsExpiringOnce, HearingChangesItsSenderAlone}
pub use Rattle.pim_hello.specs.Laws.{ReportedBefore, TablesThatAgreeAreOne, TimePassesForAll, comes_by}
pub use Rattle.pim_hello.specs.Laws.{kept_of_sender, place, unless_ended}
pub use Rattle.pim_hello.specs.Neighbours.{IsAscending, Neighbour, Table, entry_at, heard_as, heard_from}
pub use Rattle.pim_hello.specs.Neighbours.{heard_unless_goodbye, hellos_of, is_address, is_full, is_over, lifetime}
pub use Rattle.pim_hello.specs.Neighbours.{needs_no_memory, neighbour_at, next_end, passed_to, says_goodbye, sooner}
pub use Rattle.pim_hello.specs.Neighbours.{waited, without_ended}
unfoldable pub use Rattle.pim_hello.specs.Neighbours.{least_left}
pub use Rattle.pim_hello.specs.Options.{Content, Part, behind_option, content_at, is_whole, option_type}
pub use Rattle.pim_hello.specs.Options.{option_value, part_then, partial, parts, value_length, whole}
unfoldable pub use Rattle.pim_hello.specs.Options.{last_of, parts_within}
pub use Rattle.pim_hello.specs.Row.{Listed, address_then, addresses_of, begins_with, first_family, if_of, is_native}
pub use Rattle.pim_hello.specs.Row.{is_row, native, other, row}
unfoldable pub use Rattle.pim_hello.specs.Row.{row_within}
pub use Rattle.pim_hello.specs.Seen.{addresses_seen, hello_seen}
pub use Rattle.pim_hello.specs.Spelling.{ReadsBack, address_spelled, delays_spelled, if_there, option_spelled}
pub use Rattle.pim_hello.specs.Spelling.{row_spelled, row_there, spelling_of}
unfoldable pub use Rattle.pim_hello.specs.Spelling.{AreAddresses}
unfoldable pub use Rattle.pim_hello.specs.Steps.{over, with_option}
pub use Rattle.pim_hello.specs.Value.{delays_of, hello_of}
pub use Rattle.pim_hello.specs.declared.fault.HelloFault.{HelloFault}
pub use Rattle.pim_hello.specs.declared.fault.HelloKind.TheVariants.{Address, OptionLength}
pub use Rattle.pim_hello.specs.declared.parameters.Kept.{Kept}
