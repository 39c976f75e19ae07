-- The words of other modules that the lemmas on gathered entries and on local joins cite.
pub use Rattle.std.proofs.Common.{Bool, List, None, Option, Some, [], add-one, ap, arith, cond, drop, false, filter, get_or, inl, inr}
pub use Rattle.std.proofs.Common.{length, map, not, refl, subst, suc, sym, take, true, zero, ℕ, rules, is_some, option_map}
pub use Rattle.std.proofs.Common.{◌&&◌, ◌+◌, ◌<◌, ◌||◌, ◌∙◌, ◌∷◌, ◌++◌, ◌≡◌, ◌≤◌, ◌⊎◌, ◌==◌}
pub use Rattle.std.proofs.lemmas.Bool.{cases_lt, false≢true, eq-eqb, eqb-true}
pub use Rattle.std.proofs.lemmas.Cmp.{nat_list_cmp_total, nat_cmp_total, on_total, then_total, tied_itself}
pub use Rattle.std.proofs.lemmas.List.{get_or-map, length-map, map-append, append-nil, take_all}
pub use Rattle.std.proofs.lemmas.List.Folds.{list_any-append, list_any_more}
pub use Rattle.std.specs.Cmp.{IsTotalOrder, both_tied, Equal-is}
pub use Rattle.std.specs.Cmp.Lexicographic.{pointwise, slice_cmp, texts_ties}
pub use Rattle.std.specs.List.{AllByRecursion, find, list_any}
unfoldable pub use Rattle.std.specs.List.Sorted.{IsStrictlySortedBy}
pub use Rattle.std.specs.Option.{option_cmp, option_eq}
pub use Rattle.std.specs.Ordering.{is_eq, is_lt, nat_cmp, ordering_then, ordering_reverse}
pub use Rattle.std.specs.Prelude.{nat_eq}
pub use Rattle.std.specs.declared.cmp.Ordering.{Ordering}
pub use Rattle.std.specs.declared.cmp.Ordering.TheVariants.{Equal, Greater, Less}
pub use Rattle.pim_addr.specs.declared.family.AddressFamily.{AddressFamily}
pub use Rattle.pim_down.specs.Hearing.{Event}
pub use Rattle.pim_down.specs.Key.{address_cmp, rank, same_key, source_of}
unfoldable pub use Rattle.pim_down.specs.Key.{key_cmp, what_cmp}
pub use Rattle.pim_down.specs.Records.{state_of, state_of_machine, is_on}
unfoldable pub use Rattle.pim_down.specs.Records.{IsAscending, IsBelow, count_on, machine_at}
pub use Rattle.pim_down.specs.Sound.{HasSource, has_state, IsReal, IsSound}
unfoldable pub use Rattle.pim_down.specs.Sound.{IsSettled}
pub use Rattle.pim_down.specs.Time.{Downstream}
pub use Rattle.pim_down.specs.declared.machines.key.Key.{Key}
pub use Rattle.pim_down.specs.declared.machines.key.What.{What}
pub use Rattle.pim_down.specs.declared.machines.key.What.TheVariants.{Rpt, Source, Star}
pub use Rattle.pim_down.specs.declared.machines.machine.Machine.{Machine}
pub use Rattle.pim_down.specs.declared.machines.machine.Record.{Record}
pub use Rattle.pim_down.specs.declared.machines.machine.State.{State}
pub use Rattle.pim_down.specs.declared.machines.machine.State.TheVariants.{Join as Joined, PrunePending, Prune}
pub use Rattle.pim_form.specs.NormalForm.{same_address, is_listed}
pub use Rattle.pim_form.specs.Wants.{is_joined, is_pruned, state_on, wants, wants_on, inherited_olist, immediate_olist}
unfoldable pub use Rattle.pim_form.specs.Wants.{some_below}
pub use Rattle.pim_form.specs.declared.tree.Tree.{Tree}
pub use Rattle.pim_form.specs.declared.tree.Tree.TheVariants.{Shared, Source as SourceTree}
pub use Rattle.pim_local.specs.Joins.{AreJoins, AreInOrder, Join, IsValidJoin, IsValidSource, of_group, same_join, star, source_join}
pub use Rattle.pim_local.specs.Joins.{is_listed as is_joined_locally}
unfoldable pub use Rattle.pim_local.specs.Joins.{join_cmp}
pub use Rattle.std.proofs.lemmas.Result.{on_ok_weaker}
