-- The words of other modules that the lemmas and answers of this crate cite.
pub use Rattle.std.proofs.Common.{Bool, List, None, Option, Some, [], add-one, ap, arith, cond, drop, false, filter}
pub use Rattle.std.proofs.Common.{get_or, inl, inr, length, map, refl, rules, subst, suc, sym, take, true, zero, ℕ}
pub use Rattle.std.proofs.Common.{◌&&◌, ◌+◌, ◌<◌, ◌||◌, ◌∙◌, ◌∷◌, ◌≡◌, ◌≤◌, ◌⊎◌, Result, Ok, Err, not}
pub use Rattle.std.proofs.lemmas.Bool.{cases_lt, false≢true, lt-leb}
pub use Rattle.std.proofs.lemmas.Cmp.{nat_list_cmp_total, on_total, then_total, eq_by_cmp_equiv, tied_itself}
pub use Rattle.std.proofs.lemmas.List.{get_or-drop, length-drop, length-map}
pub use Rattle.std.proofs.lemmas.List.Edits.{length-insert}
pub use Rattle.std.proofs.lemmas.List.Sorted.{answers_always, searchable_from_sorted, IsPartitionedBy-ltb}
pub use Rattle.std.proofs.lemmas.List.Sorted.{IsPartitionedBy-leb, IsNonDecreasingBy-drop}
pub use Rattle.std.proofs.lemmas.List.{get_or-map as get_or_of_map}
pub use Rattle.std.specs.Cmp.{IsTotalOrder, both_tied, Equal-is}
pub use Rattle.std.specs.Cmp.Lexicographic.{options_total, pointwise, slice_cmp, texts_ties}
pub use Rattle.std.specs.List.{AllByRecursion, insert}
pub use Rattle.std.specs.List.Sorted.{IsBinarySearchResult, IsNonDecreasingBy, IsPartitionPoint, IsPartitionedBy}
pub use Rattle.std.specs.List.Sorted.{IsSearchInRange, IsSortedBy}
unfoldable pub use Rattle.std.specs.List.Sorted.{IsStrictlySortedBy}
pub use Rattle.std.specs.Option.{option_cmp, option_eq}
pub use Rattle.std.specs.Ordering.{is_eq, is_le, is_lt, match_ordering, nat_cmp, ordering_index, ordering_reverse}
pub use Rattle.std.specs.Ordering.{ordering_then}
pub use Rattle.std.specs.Prelude.{nat_eq, nat_lt, nat_le, OnErr, OnOk, option_map}
pub use Rattle.std.specs.declared.cmp.Ordering.{Ordering}
pub use Rattle.std.specs.declared.cmp.Ordering.TheVariants.{Equal, Greater, Less}
pub use Rattle.std.proofs.Common.{lit≤, of_calls}
pub use Rattle.std.proofs.lemmas.List.Sorted.{IsPartitionPoint-from_clause}
pub use Rattle.pim_addr.specs.declared.family.AddressFamily.{AddressFamily}
pub use Rattle.pim_local.specs.Joins.{AreInOrder, AreJoins, IsRefusedBy, IsValidJoin, IsValidSource, Join, is_listed}
pub use Rattle.pim_local.specs.Joins.{is_valid, is_valid_source, join_faults, of_group, same_join, with_join}
unfoldable pub use Rattle.pim_local.specs.Joins.{join_cmp}
pub use Rattle.pim_local.specs.Seen.{IsGap, IsJoinPlace, join_seen, joins_seen}
