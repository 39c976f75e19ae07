-- The words of other modules that the lemmas and answers of this crate cite.
pub use Rattle.std.proofs.Common.{Bool, List, None, Option, Some, T, [], add-one, ap, append-nil, append_assoc}
pub use Rattle.std.proofs.Common.{arith, codes, cond, decimal, drop, eqb, false, filter, get_or, inl, inr, length}
pub use Rattle.std.proofs.Common.{length-append, lit≤, ltb, map, min, nat_eq, nat_lt, refl, rules, set, slice_index}
pub use Rattle.std.proofs.Common.{subst, suc, sym, take, true, zero, ℕ, ◌%◌, ◌&&◌, ◌*◌, ◌++◌, ◌+◌, ◌-◌, ◌/◌, ◌<◌}
pub use Rattle.std.proofs.Common.{◌==◌, ◌^◌, ◌||◌, ◌∙◌, ◌∷◌, ◌≡◌, ◌≤◌, ◌⊎◌}
pub use Rattle.std.proofs.Math.Nat.{add-mul, div-eq_of_lt, div-eq_of_lt-le, div-mul-le_self, mod-eq_of_lt, mod-le}
pub use Rattle.std.proofs.Math.Nat.{mul-le-mul_right, mul-one, mul-zero, mul_assoc, one-mul, pow-succ'}
pub use Rattle.std.proofs.Math.Nat.{two-pow-succ, zero-mul}
pub use Rattle.std.proofs.lemmas.Bool.{and_from, and_left, and_parts, cases_lt, cond-false, cond-true, eq-eqb}
pub use Rattle.std.proofs.lemmas.Bool.{eqb-true, false_from_ne_true, false≢true, le-leb, le-ltb, leb-true, lt-leb}
pub use Rattle.std.proofs.lemmas.Bool.{lt-ltb, ltb-true, ne_eqb, or_from, or_parts}
pub use Rattle.std.proofs.lemmas.Cmp.{back_total, nat_cmp_total, nat_list_cmp_total, on_total, then_total}
pub use Rattle.std.proofs.lemmas.Cmp.{tied_itself}
pub use Rattle.std.proofs.lemmas.Fmt.{decimal_digit, decimal_step}
pub use Rattle.std.proofs.lemmas.List.{drop-drop, drop-map, get_or_default, length-map, length-take-le, map-append}
pub use Rattle.std.proofs.lemmas.List.{map_more, take-map, take_at, take_more}
pub use Rattle.std.proofs.lemmas.List.Edits.{get_or-insert_above, get_or-insert_at, get_or-insert_below}
pub use Rattle.std.proofs.lemmas.List.Edits.{length-insert}
pub use Rattle.std.proofs.lemmas.List.Sorted.{answers_always, searchable_from_sorted}
pub use Rattle.std.proofs.lemmas.List.Sums.{prefix_len-le-length, prefix_len_is}
pub use Rattle.std.proofs.lemmas.Nat.{and_assoc, div-add-mod', div_below, le-div, pow-add, pow_pos}
pub use Rattle.std.specs.BTreeMap.{insert_entry, is_at}
pub use Rattle.std.specs.Cmp.{Equal-is, IsTotalOrder, eq_by_cmp_equiv, nat_cmp_is, ranks}
pub use Rattle.std.specs.Cmp.Lexicographic.{pointwise, slice_cmp}
pub use Rattle.std.specs.List.{AllByRecursion, insert, join_with_byte, list_all, list_any}
pub use Rattle.std.specs.List.Sorted.{IsBinarySearchResult, IsNonDecreasingBy, IsPartitionPoint, IsSearchInRange}
pub use Rattle.std.specs.List.Sorted.{IsSorted}
unfoldable pub use Rattle.std.specs.List.Sorted.{IsStrictlySortedBy}
pub use Rattle.std.specs.Map.{keys_of, lookup}
pub use Rattle.std.specs.Ordering.{MatchOrdering, eq_by_cmp, is_eq, is_lt, match_ordering, nat_cmp, ordering_index}
pub use Rattle.std.specs.Ordering.{ordering_reverse, ordering_then}
pub use Rattle.std.specs.Prelude.{Err, Ok, OnErr, OnOk, Result, is_some, nat_le, option_map, ◌↔◌}
pub use Rattle.std.specs.Slice.Scan.{big_endian}
pub use Rattle.std.specs.declared.cmp.Ordering.{Ordering}
pub use Rattle.std.specs.declared.cmp.Ordering.TheVariants.{Equal, Greater, Less}
pub use Rattle.pim_addr.specs.Address.{AreBytes, IsAddress, NumbersAreInOrder, address_length, ends_within}
pub use Rattle.pim_addr.specs.Address.{family_byte, first_bits, is_group, is_source, is_unspecified, last_number}
pub use Rattle.pim_addr.specs.Address.{mask_length, number_of}
pub use Rattle.pim_addr.specs.Canonical.{ReadsGroup, ReadsSource, ReadsUnicast, canonical_flags, canonical_group}
pub use Rattle.pim_addr.specs.Canonical.{canonical_source, canonical_unicast}
pub use Rattle.pim_addr.specs.RouteLaws.{OneNeighbourForAll, OneRpForAllGroups, OrderOfAddingIsFree}
pub use Rattle.pim_addr.specs.RouteLaws.{RouteMapHasOneList, RowIsAddedAtItsPrefix, all_addresses, all_groups}
pub use Rattle.pim_addr.specs.RouteLaws.{first_group, with_rows}
pub use Rattle.pim_addr.specs.RouteRows.{AnswersBetween, AreRanges, IsEnd, IsGap, IsRowPlace, KeepAnswers, Rises}
pub use Rattle.pim_addr.specs.RouteRows.{Stand, answer_of, answer_with, answers_seen, longest_match, row_seen}
pub use Rattle.pim_addr.specs.RouteRows.{rows_seen}
unfoldable pub use Rattle.pim_addr.specs.RouteRows.{before}
pub use Rattle.pim_addr.specs.Routes.{AreInOrder, IsRealRow, Prefix, Row, is_group_prefix, longer_of, longest}
pub use Rattle.pim_addr.specs.Routes.{matches, row_at, with_row}
unfoldable pub use Rattle.pim_addr.specs.Routes.{led_to, prefix_cmp}
pub use Rattle.pim_addr.specs.Text.{Wrote, address_text, hex_groups, hex_pair, separator}
pub use Rattle.pim_addr.specs.declared.family.AddressFamily.{AddressFamily}
pub use Rattle.pim_addr.specs.declared.family.AddressFamily.TheVariants.{Ipv4, Ipv6}
pub use Rattle.pim_addr.specs.declared.route.Route.{Route}
