-- The words of other modules that the lemmas and answers of this crate cite.
pub use Rattle.pim_addr.specs.declared.family.AddressFamily.{AddressFamily}
pub use Rattle.pim_addr.specs.Routes.{rp_of}
pub use Rattle.pim_audit.specs.Between.{AreDue}
pub use Rattle.pim_audit.specs.Entries.{action_entries, announced_entries, due_entries}
pub use Rattle.pim_audit.specs.Local.{local_port}
pub use Rattle.pim_audit.specs.Sides.{SidesState, wanted_demand}
pub use Rattle.pim_change.specs.Change.{Action, ChangeUnit, change_at, group_change, lacking, of_source}
pub use Rattle.pim_change.specs.Change.{sources_change, star_change, star_joined, star_pruned, unit_of}
unfoldable pub use Rattle.pim_change.specs.Change.{change, in_order}
pub use Rattle.pim_change.specs.Laws.{AddressesAreInOrder, EqualFormsChangeNothing}
pub use Rattle.pim_change.specs.declared.unit.ActionKind.TheVariants.{JoinRpt, JoinSource, PruneRpt, PruneSource}
pub use Rattle.pim_down.specs.Hearing.{Event}
pub use Rattle.pim_down.specs.Time.{Downstream}
pub use Rattle.pim_form.specs.Laws.{MessagesCarryTheForm, OneNormalForm}
pub use Rattle.pim_form.specs.Messages.{HaveRps}
pub use Rattle.pim_form.specs.NormalForm.{Agree, AreAscending, GroupForm, IsFormOf, IsNormal, WantTheSame, form_wants}
pub use Rattle.pim_form.specs.NormalForm.{group_wants, groups_of, is_excepted, is_listed, same_address}
pub use Rattle.pim_form.specs.Settled.{unwanted}
unfoldable pub use Rattle.pim_form.specs.Settled.{group_in}
pub use Rattle.pim_form.specs.Toward.{is_neighbour, rpf_neighbour, via_of}
pub use Rattle.pim_form.specs.Wants.{wants}
unfoldable pub use Rattle.pim_form.specs.Wants.{some_below}
unfoldable pub use Rattle.pim_down.specs.Records.{machine_at}
pub use Rattle.pim_form.specs.declared.tree.Tree.{Tree}
pub use Rattle.pim_mirror.specs.Laws.{DemandedStarsHaveRps}
pub use Rattle.pim_router.specs.Canonical.{demanded}
pub use Rattle.pim_router.specs.OneList.{OneListIsDemanded}
pub use Rattle.pim_router.specs.State.{RouterState}
pub use Rattle.std.proofs.Common.{Bool, List, None, Option, Some, [], ap, cond, false, map, not, refl, subst, sym}
pub use Rattle.std.proofs.Common.{true, ℕ, ◌&&◌, ◌++◌, ◌||◌, ◌∙◌, ◌∷◌, ◌≡◌}
pub use Rattle.std.proofs.lemmas.Bool.{false≢true}
pub use Rattle.std.proofs.lemmas.List.Folds.{list_any-append}
pub use Rattle.std.specs.Cmp.Lexicographic.{same_text, slice_cmp, texts_ties}
pub use Rattle.std.specs.List.{AllByRecursion, flat_map, list_any}
unfoldable pub use Rattle.std.specs.List.Sorted.{IsStrictlySortedBy}
pub use Rattle.std.specs.Ordering.{is_eq, nat_cmp}
pub use Rattle.std.specs.declared.cmp.Ordering.TheVariants.{Less}
pub use Rattle.pim_audit_laws.specs.Laws.{IsOneDemand, NothingDueIsOneDemand, NothingDueIsOneForm}
pub use Rattle.pim_audit_laws.specs.Laws.{NothingDueIsOneList, OneListIsNothingDue}
pub use Rattle.pim_audit_laws.specs.Laws.{WithoutLocalIsDemanded, without_local}
