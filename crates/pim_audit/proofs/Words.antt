-- The words of other modules that the lemmas and answers of this crate cite.
pub use Rattle.pim_addr.specs.declared.family.AddressFamily.{AddressFamily}
pub use Rattle.pim_change.specs.Seen.{units_seen}
pub use Rattle.pim_change.specs.declared.unit.ActionKind.TheVariants.{JoinRpt, JoinSource, PruneRpt, PruneSource}
pub use Rattle.pim_down.specs.Ends.{weight}
pub use Rattle.pim_down.specs.Hearing.{Event}
pub use Rattle.pim_down.specs.Key.{address_cmp, rank, source_of}
unfoldable pub use Rattle.pim_down.specs.Key.{what_cmp}
pub use Rattle.pim_down.specs.Seen.{event_seen}
pub use Rattle.pim_down.specs.Time.{Downstream, IsNextDue, is_due_after, record_after, tick}
unfoldable pub use Rattle.pim_down.specs.Time.{fired, first_due, ticks}
pub use Rattle.pim_down.specs.declared.machines.machine.Record.{Record}
pub use Rattle.pim_down.specs.declared.machines.step.Firing.{Firing}
unfoldable pub use Rattle.pim_form.specs.Wants.{some_below}
pub use Rattle.pim_hello.specs.Neighbours.{neighbour_at, sooner}
pub use Rattle.pim_router.specs.Happening.{FiresTo, first_timeout, gone_between, timer_fired}
pub use Rattle.pim_router.specs.Laws.{FiringPasses, HappeningGoesOn, TheEndedGoAtFirstTimeout}
pub use Rattle.pim_router.specs.Sound.{IsRouter}
pub use Rattle.pim_router.specs.State.{RouterState, setup_of, table_at}
pub use Rattle.pim_router.specs.Time.{turns_left}
pub use Rattle.std.proofs.Common.{Bool, List, None, Option, Some, [], add-one, ap, ap₂, arith, cond, drop, false}
pub use Rattle.std.proofs.Common.{get_or, inl, inr, length, map, max, not, refl, set, subst, suc, sym, take, true}
pub use Rattle.std.proofs.Common.{zero, ℕ, ◌&&◌, ◌*◌, ◌++◌, ◌+◌, ◌-◌, ◌<◌, ◌==◌, ◌||◌, ◌∙◌, ◌∷◌, ◌≡◌, ◌≤◌}
pub use Rattle.std.proofs.lemmas.Bool.{cases_lt, false≢true, lt-ltb}
pub use Rattle.std.proofs.lemmas.Cmp.{nat_cmp_total, nat_list_cmp_total, on_total, then_total, tied_itself}
pub use Rattle.std.proofs.lemmas.List.{append-nil, append_assoc, drop_more, get_or-map, length-map, map-append}
pub use Rattle.std.proofs.lemmas.List.{map-set, nil_from_length, take_at}
pub use Rattle.std.specs.List.{AllByRecursion, filter, find, flat_map, list_any}
unfoldable pub use Rattle.std.specs.List.Sorted.{IsStrictlySortedBy}
pub use Rattle.std.specs.Option.{is_some, option_map}
pub use Rattle.std.specs.Ordering.{is_eq, nat_cmp, ordering_reverse, ordering_then}
pub use Rattle.std.specs.declared.cmp.Ordering.TheVariants.{Equal, Greater, Less}
pub use Rattle.pim_audit.specs.Asked.{PassesTo}
unfoldable pub use Rattle.pim_audit.specs.Asked.{FiresThrough}
pub use Rattle.pim_audit.specs.Audited.{AuditState, with_asked, without_records}
pub use Rattle.pim_audit.specs.Entries.{due_entries, entry, source_entry, announced_entries}
pub use Rattle.pim_audit.specs.Look.{DueEntry, becomes_late, due_at, held_entries, ends_reported, is_newly_due, marked, or_new}
pub use Rattle.pim_audit.specs.Order.{EntriesAscend, entry_rank, same_entry}
unfoldable pub use Rattle.pim_audit.specs.Order.{entry_cmp}
pub use Rattle.pim_audit.specs.Passing.{HappensTo, IsAfter, IsNextEnd, IsQuiet, if_gone}
pub use Rattle.pim_audit.specs.Seen.{due_seen, dues_seen}
pub use Rattle.pim_audit.specs.declared.due.Due.{Due}
pub use Rattle.pim_audit.specs.declared.passing.Passed.{Passed}
