-- The words of other modules that the lemmas and answers of this crate cite.
pub use Rattle.pim_addr.specs.Address.{IsGroupAddress, IsSourceAddress, address_length, is_source, is_unspecified}
pub use Rattle.pim_addr.specs.Encoded.{group_length, source_length}
pub use Rattle.pim_addr.specs.Routes.{RouteTable, rp_of}
pub use Rattle.pim_addr.specs.declared.family.AddressFamily.{AddressFamily}
pub use Rattle.pim_addr.specs.declared.family.AddressFamily.TheVariants.{Ipv4, Ipv6}
pub use Rattle.pim_down.specs.After.{MachinesLeft, group_after, is_above, is_of_group_after, left_behind}
pub use Rattle.pim_down.specs.After.{next_in_group, next_machine}
pub use Rattle.pim_down.specs.Hearing.{is_rpt_on, rpt_count_on}
pub use Rattle.pim_down.specs.Key.{address_cmp, rank, same_key, source_of}
unfoldable pub use Rattle.pim_down.specs.Key.{key_cmp, what_cmp}
pub use Rattle.pim_down.specs.Laws.{KeysAreDistinct}
pub use Rattle.pim_down.specs.Records.{is_on, state_of_machine}
unfoldable pub use Rattle.pim_down.specs.Records.{IsAscending, IsBelow, machine_at}
pub use Rattle.pim_down.specs.Seen.{record_of_seen, what_seen}
pub use Rattle.pim_down.specs.Sound.{IsReal, IsSound, joined_or_pending}
pub use Rattle.pim_down.specs.Time.{Downstream}
pub use Rattle.pim_down.specs.declared.machines.key.Key.{Key}
pub use Rattle.pim_down.specs.declared.machines.key.What.{What}
pub use Rattle.pim_down.specs.declared.machines.key.What.TheVariants.{Rpt, Source, Star}
pub use Rattle.pim_down.specs.declared.machines.machine.Machine.{Machine}
pub use Rattle.pim_down.specs.declared.machines.machine.Record.{Record}
pub use Rattle.pim_down.specs.declared.machines.machine.State.{State}
pub use Rattle.pim_form.specs.Demanded.{DemandedFormIsDemanded, GroupsAreCounted, IsDemandedForm, demanded_form}
pub use Rattle.pim_form.specs.Messages.{AreCanonical, CarriesRun, CarryRuns, Writing, excepted_entries}
pub use Rattle.pim_form.specs.Messages.{star_entries, written_message, written_set}
pub use Rattle.pim_form.specs.NormalForm.{AreAscending, AreExceptions, GroupForm, IsFormOf, IsNormal, IsNormalGroup}
pub use Rattle.pim_form.specs.NormalForm.{groups_of, is_empty, is_listed, most_exceptions, same_address}
pub use Rattle.pim_form.specs.Packing.{IsNonempty, IsPacking, StopsBefore, fits, most_groups}
unfoldable pub use Rattle.pim_form.specs.Packing.{AreRuns}
pub use Rattle.pim_form.specs.Rows.{exceptions_of}
pub use Rattle.pim_form.specs.Settled.{unwanted}
unfoldable pub use Rattle.pim_form.specs.Settled.{group_in}
pub use Rattle.pim_form.specs.TooBig.{star_fits, too_big}
pub use Rattle.pim_form.specs.Toward.{is_neighbour, star_rpf_neighbour, via_of}
pub use Rattle.pim_form.specs.TowardLaws.{demand_toward}
pub use Rattle.pim_form.specs.Units.{WantUnit, empty_message_size, empty_set_size, entry_size, group_units}
pub use Rattle.pim_form.specs.Units.{run_groups, run_size, source_unit, star_unit, star_units, units_of}
unfoldable pub use Rattle.pim_form.specs.Units.{run_entries}
pub use Rattle.pim_form.specs.Wants.{is_joined, is_pruned, state_on, wants, wants_on}
unfoldable pub use Rattle.pim_form.specs.Wants.{some_below}
pub use Rattle.pim_form.specs.declared.tree.Tree.TheVariants.{Shared}
pub use Rattle.pim_frame.specs.Frame.{all_routers}
pub use Rattle.pim_frame.specs.Seal.{IsSealed}
pub use Rattle.pim_frame.specs.declared.frame.MessageType.TheVariants.{JoinPrune}
pub use Rattle.pim_jp.specs.Canonical.{canonical, canonical_entry, canonical_head, canonical_set}
pub use Rattle.pim_jp.specs.Canonical.{canonical_set_length}
pub use Rattle.std.proofs.Common.{Bool, Fits, List, None, Option, Some, [], add-one, ap, append_assoc, arith, cond}
pub use Rattle.std.proofs.Common.{drop, eqb, false, get_or, length, length-append, map, min, nat_le, not}
pub use Rattle.std.proofs.Common.{option_map, refl, subst, suc, sym, take, true, w64, zero, ℕ, ⊎_elim, ◌%◌, ◌&&◌}
pub use Rattle.std.proofs.Common.{◌*◌, ◌++◌, ◌+◌, ◌-◌, ◌/◌, ◌<◌, ◌||◌, ◌↔◌, ◌∙◌, ◌∷◌, ◌≡◌, ◌≤◌}
pub use Rattle.std.proofs.KnownBytes.{Appends-trans}
pub use Rattle.std.proofs.Math.Seq.{drop-cons, take-add, take-append-add, take-append_seam, take-length}
pub use Rattle.std.proofs.lemmas.Bool.{and_from, and_parts, cases_lt, eq-eqb, eqb-false, eqb-true}
pub use Rattle.std.proofs.lemmas.Bool.{false_from_ne_true, false≢true, le-leb, leb-false, leb-true, lt-ltb, or_left}
pub use Rattle.std.proofs.lemmas.Bool.{or_parts, or_right}
pub use Rattle.std.proofs.lemmas.Cmp.{nat_cmp_total, nat_list_cmp_total, tied_itself}
pub use Rattle.std.proofs.lemmas.Grind.{flat_map-append, get_or-set_at}
pub use Rattle.std.proofs.lemmas.List.{append-nil, drop-append-le, drop_all, get_or-set_other, get_or-set_same}
pub use Rattle.std.proofs.lemmas.List.{get_or_default, length-drop, length-map, length-set, length-take}
pub use Rattle.std.proofs.lemmas.List.{length-take-le, map-append, take-append-drop, take-append-le, take_more}
pub use Rattle.std.specs.Cmp.Lexicographic.{texts_ties}
pub use Rattle.std.specs.Io.KnownBytes.{Appends}
pub use Rattle.std.specs.List.{AllByRecursion, filter, find, flat_map, list_any}
unfoldable pub use Rattle.std.specs.List.Sorted.{IsStrictlySortedBy}
pub use Rattle.std.specs.Option.{is_some}
pub use Rattle.std.specs.Ordering.{is_eq, is_le, is_lt, nat_cmp, ordering_reverse, ordering_then}
pub use Rattle.std.specs.Prelude.{IfSome, if◌then◌else◌}
pub use Rattle.std.specs.declared.cmp.Ordering.{Ordering}
pub use Rattle.std.specs.declared.cmp.Ordering.TheVariants.{Equal, Greater, Less}
pub use Rattle.pim_emit.specs.Ahead.{AreLeastBelow, AreNext, AreNextBelow, FindsNext, IsAheadOn, IsLeastBelow}
pub use Rattle.pim_emit.specs.Ahead.{IsNextOn, IsNextSource, LeastSeen, SourceAhead, is_this, its_source}
pub use Rattle.pim_emit.specs.Ahead.{least_seen, machines_behind, passed, source_of_least}
pub use Rattle.pim_emit.specs.DemandSeen.{DemandSeen}
pub use Rattle.pim_emit.specs.Drafts.{IsDraft, IsMessage, body_start, draft_seen, message_size, steps_left}
pub use Rattle.pim_emit.specs.Least.{IsLeast}
pub use Rattle.pim_emit.specs.Left.{HaveSameStars, IsNextPiece, IsPiece, IsPosition, above, exceptions_in}
pub use Rattle.pim_emit.specs.Left.{groups_above, is_past, left_at, next_above, piece_form, piece_seen}
pub use Rattle.pim_emit.specs.Left.{position_seen, sources_in, star_of}
pub use Rattle.pim_emit.specs.Machines.{IsSomeBelow, has_group, has_rpt, is_source_joined, is_starred}
pub use Rattle.pim_emit.specs.Rpts.{AreRpts, AreRptsOn, RptsLeft}
pub use Rattle.pim_emit.specs.Sets.{AreWritten, cut_piece, entry_count, exception_entries, set_entries, set_size}
pub use Rattle.pim_emit.specs.Sets.{source_entries, sources_seen}
pub use Rattle.pim_emit.specs.Stars.{AreFlags, AreStars, IsFirstBelow}
pub use Rattle.pim_emit.specs.Written.{DemandBy, HasGoneOut, HaveGoneOut, all_framed, framed}
pub use Rattle.pim_emit.specs.declared.draft.Draft.{Draft}
pub use Rattle.pim_emit.specs.declared.piece.Piece.{Piece}
pub use Rattle.pim_emit.specs.declared.position.Position.{Position}
pub use Rattle.pim_emit.specs.declared.position.Position.TheVariants.{Behind, Start, Within}
pub use Rattle.pim_emit.specs.declared.set.WrittenSources.{WrittenSources}
