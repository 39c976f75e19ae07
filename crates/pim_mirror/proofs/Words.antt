-- The words of other modules that the lemmas and answers of this crate cite.
pub use Rattle.pim_addr.specs.Address.{IsGroupAddress, IsSourceAddress}
pub use Rattle.pim_addr.specs.Faults.{fault_if}
pub use Rattle.pim_addr.specs.Routes.{IsRealRow, IsRouteTable, RouteTable, Row, longer_of, longest, matches, rp_of}
unfoldable pub use Rattle.pim_addr.specs.Routes.{led_to}
pub use Rattle.pim_addr.specs.declared.family.AddressFamily.{AddressFamily}
pub use Rattle.pim_down.specs.Hearing.{Event, entry_events, event, events_of, hearing, is_known, list_events}
pub use Rattle.pim_down.specs.Hearing.{needed, set_events, start_of}
pub use Rattle.pim_down.specs.Laws.{RunHasOneEnd, RunKeepsItsBounds}
pub use Rattle.pim_down.specs.Time.{Downstream, expiry_after, fired, with_records}
pub use Rattle.pim_down.specs.declared.machines.event.Timing.{Timing}
pub use Rattle.pim_down.specs.declared.machines.key.Key.{Key}
pub use Rattle.pim_down.specs.declared.machines.key.What.{What}
pub use Rattle.pim_down.specs.declared.machines.key.What.TheVariants.{Rpt, Source, Star}
pub use Rattle.pim_down.specs.declared.machines.machine.Record.{Record}
pub use Rattle.pim_form.specs.Blocks.{written_bytes}
pub use Rattle.pim_form.specs.Laws.{IsReadAs, MessagesAreThereUnlessTooBig, OneListOfMessages, OneNormalForm}
pub use Rattle.pim_form.specs.Laws.{SealedMessageIsRead, SizeIsLength}
pub use Rattle.pim_form.specs.Messages.{AreCanonical, CarriesRun, CarryRuns, HaveRps, IsRp, IsRpOf, IsWriting}
pub use Rattle.pim_form.specs.Messages.{Writing, excepted_entries, star_entries, written_message, written_set}
pub use Rattle.pim_form.specs.NormalForm.{Agree, AreAscending, AreExceptions, GroupForm, IsFormOf, IsNormal}
pub use Rattle.pim_form.specs.NormalForm.{IsNormalGroup, form_wants, groups_of, is_empty, is_excepted, is_listed}
pub use Rattle.pim_form.specs.NormalForm.{same_address}
pub use Rattle.pim_form.specs.Packing.{fits, joined, most_groups}
unfoldable pub use Rattle.pim_form.specs.Packing.{AreRuns}
pub use Rattle.pim_form.specs.Rows.{exceptions_of}
pub use Rattle.pim_form.specs.Toward.{is_group_toward, is_neighbour, is_star_toward, is_toward, rpf_neighbour}
pub use Rattle.pim_form.specs.Toward.{star_rpf_neighbour, via_of}
pub use Rattle.pim_form.specs.TowardLaws.{SameMessagesSameDemandToward, TestFindsTheNeighbour, demand_toward}
pub use Rattle.pim_form.specs.Units.{WantUnit, group_units, is_of_group, run_groups, run_size, source_unit}
pub use Rattle.pim_form.specs.Units.{star_unit, star_units, unit_group}
pub use Rattle.pim_form.specs.Units.{units_of}
unfoldable pub use Rattle.pim_form.specs.Units.{groups_behind, run_entries}
pub use Rattle.pim_form.specs.Wants.{is_joined, is_pruned, state_on, wants, wants_on}
unfoldable pub use Rattle.pim_form.specs.Wants.{some_below}
pub use Rattle.pim_form.specs.declared.tree.Tree.TheVariants.{Shared}
pub use Rattle.pim_frame.specs.Frame.{Content, all_routers, content, frame_faults, hello, join_prune, other}
pub use Rattle.pim_frame.specs.Seal.{IsSealed, SealedOpens, SomeMessageIsSealed}
pub use Rattle.pim_frame.specs.declared.frame.FrameFault.{FrameFault}
pub use Rattle.pim_frame.specs.declared.frame.MessageType.TheVariants.{Hello}
pub use Rattle.pim_fresh.specs.Deliveries.{AreAlive, Delivery, IsShorter, is_delivered}
unfoldable pub use Rattle.pim_fresh.specs.Deliveries.{IsTimely, final_moment, last_of}
pub use Rattle.pim_fresh.specs.Demanding.{AreDifferent}
pub use Rattle.pim_fresh.specs.Exchange.{Exchange, HasUnitsOnce, has_unit_of}
unfoldable pub use Rattle.pim_fresh.specs.Exchange.{AreUnits}
pub use Rattle.pim_fresh.specs.Expected.{IsAsWanted, Span, machine_wanted, state_wanted, up_to}
unfoldable pub use Rattle.pim_fresh.specs.Expected.{span_of}
pub use Rattle.pim_fresh.specs.Hearing.{after_message, fresh}
unfoldable pub use Rattle.pim_fresh.specs.Hearing.{Leaves}
pub use Rattle.pim_fresh.specs.Laws.{DemandingHasUnits, EveryHearingReaches, NeedsTheUnits, NoEchoIsDue}
pub use Rattle.pim_fresh.specs.Laws.{SpanIsOfItsMessage, StaysAsWanted}
pub use Rattle.pim_hello.specs.Hello.{Delays, Parameters}
pub use Rattle.pim_hello.specs.Interval.{all_sent_delays, delays_sent, greatest, jp_override_interval}
pub use Rattle.pim_hello.specs.Neighbours.{is_address, is_full, lifetime, no_neighbours, says_goodbye}
pub use Rattle.pim_hello.specs.Neighbours.{without_ended}
pub use Rattle.pim_hello.specs.Spelling.{ParametersFit, ReadsBack, spelling_of}
unfoldable pub use Rattle.pim_hello.specs.Spelling.{AreAddresses}
pub use Rattle.pim_hello.specs.Value.{hello_of}
pub use Rattle.pim_jp.specs.Message.{GroupSet, Message, message_of}
pub use Rattle.pim_jp.specs.declared.entry.Entry.{Entry}
pub use Rattle.pim_router.specs.Course.{Input, RouterReport, echo, refresh, runs_to, takes, verdict}
unfoldable pub use Rattle.pim_router.specs.Course.{IsCourse, Reaches}
pub use Rattle.pim_router.specs.Laws.{CourseGoesOn, EveryListHasACourse}
pub use Rattle.pim_router.specs.Packets.{Packet, Receives, body_causes, body_heard, causes, hello_causes}
pub use Rattle.pim_router.specs.Packets.{hello_heard, knows, message_causes, message_heard, neighbours_on}
pub use Rattle.pim_router.specs.Packets.{own_address, received, room_causes, timing_on, unless}
pub use Rattle.pim_router.specs.Seen.{packet_seen, port_seen}
pub use Rattle.pim_router.specs.State.{Port, RouterState, Setup, new_router, port_at, refresh_period, with_machines}
pub use Rattle.pim_router.specs.State.{with_refresh, with_tables}
pub use Rattle.pim_router.specs.Time.{Outcome, Runs, has_ended, moves, reported, rests, run_on, stops_with, tick}
pub use Rattle.pim_router.specs.Time.{turn_of_refresh, turn_of_time, turn_of_timers, turns_left}
unfoldable pub use Rattle.pim_router.specs.Time.{run_within, turn}
pub use Rattle.pim_router.specs.declared.step.Step.{Step}
pub use Rattle.pim_router.specs.declared.step.Step.TheVariants.{Echo, Reached, Refresh}
pub use Rattle.pim_router.specs.declared.verdict.Verdict.{Verdict}
pub use Rattle.std.proofs.Common.{Bool, Err, IfErr, List, None, Ok, OnErr, Option, Result, Some, [], add-one, ap}
pub use Rattle.std.proofs.Common.{append_assoc, ap₂, arith, cond, drop, eqb, false, filter, get_or, if◌then◌else◌}
pub use Rattle.std.proofs.Common.{leb, length, length-append, ltb, map, max, nat_le, nat_lt, not, option_map, refl}
pub use Rattle.std.proofs.Common.{reverse, rules, slice_index_or, subst, suc, sym, tests, true, zero, zero-le, ℕ}
pub use Rattle.std.proofs.Common.{◌&&◌, ◌++◌, ◌+◌, ◌-◌, ◌<◌, ◌==◌, ◌^◌, ◌||◌, ◌∙◌, ◌∷◌, ◌≡◌, ◌≢◌, ◌≤◌}
pub use Rattle.std.proofs.lemmas.Bool.{eq-eqb, eqb-false, eqb-true, false≢true, le-leb, le-ltb, leb-true, lt-ltb}
pub use Rattle.std.proofs.lemmas.Bool.{ltb-false, ltb-true}
pub use Rattle.std.proofs.lemmas.List.{append-nil, length-map, map-append, reverse-append}
pub use Rattle.std.proofs.lemmas.List.Folds.{list_any-append}
pub use Rattle.std.proofs.lemmas.List.Sorted.{IsPermutation-reverse, list_any-IsPermutation}
pub use Rattle.std.proofs.lemmas.Result.{err_from_is_err_and}
pub use Rattle.std.specs.Cmp.{both_tied, eq_by_cmp_equiv, nat_eq_equiv, unsigned_ties}
pub use Rattle.std.specs.Cmp.Lexicographic.{lists_equiv, nat_list_cmp_total, pointwise, same_text, slice_cmp}
pub use Rattle.std.specs.Cmp.Lexicographic.{texts_ties}
pub use Rattle.std.specs.FinMap.{nat_cmp-IsAntisymmetric, slice_cmp-IsAntisymmetric}
pub use Rattle.std.specs.List.{AllByRecursion, flat_map, list_all, list_any, slice_get}
unfoldable pub use Rattle.std.specs.List.{IsDistinct}
unfoldable pub use Rattle.std.specs.List.Sorted.{IsStrictlySortedBy}
pub use Rattle.std.specs.Map.{lookup, remove_entry}
pub use Rattle.std.specs.Option.{is_some, option_eq}
pub use Rattle.std.specs.Ordering.{is_eq, match_ordering, nat_cmp, ordering_then}
pub use Rattle.std.specs.Prelude.{nat_eq}
pub use Rattle.std.specs.declared.cmp.Ordering.TheVariants.{Equal, Greater, Less}
pub use Rattle.pim_mirror.specs.CanonicalCourse.{AreOf, HoldsNothing, IsTaken, Lasts}
unfoldable pub use Rattle.pim_mirror.specs.CanonicalCourse.{HearsAll, inputs_of}
pub use Rattle.pim_mirror.specs.CanonicalExchange.{CarriesForm, IsCarried, body_of, events_at, exchange_in}
pub use Rattle.pim_mirror.specs.CanonicalExchange.{exchange_of, message_in}
unfoldable pub use Rattle.pim_mirror.specs.CanonicalExchange.{AreReadAs}
pub use Rattle.pim_mirror.specs.CanonicalMirror.{AllCame, DemandsAgain}
pub use Rattle.pim_mirror.specs.CanonicalPackets.{HearsWriter, IsHeard, heard_exchange, needed_records, packet_of}
pub use Rattle.pim_mirror.specs.CanonicalParts.{AreParts, HasListsInOrder, IsInOrder}
unfoldable pub use Rattle.pim_mirror.specs.CanonicalParts.{CarryParts}
pub use Rattle.pim_mirror.specs.CanonicalUnits.{form_names, group_names}
pub use Rattle.pim_mirror.specs.Config.{Fresh, Neighbour, delivery_seen, end_of, first_port, fresh_seen}
pub use Rattle.pim_mirror.specs.Config.{interval_of, neighbour_seen, neighbours, newest_first, port_of}
pub use Rattle.pim_mirror.specs.Config.{sender_hello, setup_of}
pub use Rattle.pim_mirror.specs.Fits.{Fits, OthersStay, expiry_of}
pub use Rattle.pim_mirror.specs.Headline.{AreMessagesOf, FreshRouterIsThere, FreshRouterKnowsTheWriter}
pub use Rattle.pim_mirror.specs.Headline.{FreshRouterMirrors, FreshRouterSendsNoEcho, Headline, HearsAlone}
pub use Rattle.pim_mirror.specs.Headline.{HoldsTheForm, IsAt, IsInWindow, IsMirrorOf, KnowsItsWriter}
pub use Rattle.pim_mirror.specs.Headline.{MirrorAnswersForTheForm, MirrorsForm, NormalisingTwiceIsOnce}
pub use Rattle.pim_mirror.specs.Headline.{RoomIsForTheUnits, all_entries, fresh_exchange, if_over, is_echo}
unfoldable pub use Rattle.pim_mirror.specs.Headline.{entries_of, first_over}
pub use Rattle.pim_mirror.specs.HelloLaws.{HellosAreHeard, NeighboursHaveHellos, WrittenHellosAreRead}
pub use Rattle.pim_mirror.specs.Hellos.{HasMet, IsHelloFrom, timing_of}
unfoldable pub use Rattle.pim_mirror.specs.Hellos.{AreHellosFrom}
pub use Rattle.pim_mirror.specs.Laws.{CanonicalMessagesCarryForm, CanonicalMessagesCarryParts}
pub use Rattle.pim_mirror.specs.Laws.{CanonicalPacketIsHeard, CourseHearsAll, DeliveryIsTaken, DemandedStarsHaveRps}
pub use Rattle.pim_mirror.specs.Laws.{HeardMessagesAreDemandedAgain, MessagesAreRead, PartsHaveUnitsOnce}
pub use Rattle.pim_mirror.specs.Laws.{ReadPacketIsHeard, RouterDemandsAgain, RouterLeavesItsPort}
pub use Rattle.pim_mirror.specs.Laws.{RouterRunsAsItsMachines, WriterStaysHeard}
pub use Rattle.pim_mirror.specs.Mirror.{GoesThrough, HasReached, IsHelloOf, IsPassed, IsRefused, Mirrors, Passes}
pub use Rattle.pim_mirror.specs.Mirror.{PassesHello, PassesHellos, StopsAt, delivery_inputs, delivery_packet}
pub use Rattle.pim_mirror.specs.Mirror.{is_reached, needed_by, needed_of, or_later, outcome_if, outcome_of}
unfoldable pub use Rattle.pim_mirror.specs.Mirror.{AreHellosOf, first_needed}
pub use Rattle.pim_mirror.specs.MirrorLaws.{CanonicalMessagesAreShort, StateHasMessagesUnlessTooBig}
pub use Rattle.pim_mirror.specs.Tests.{AreEarly, is_alive, is_shorter, last_with}
unfoldable pub use Rattle.pim_mirror.specs.Tests.{are_different, is_in_order, is_kept}
pub use Rattle.pim_mirror.specs.declared.config.OtherNeighbour.{OtherNeighbour}
pub use Rattle.pim_mirror.specs.declared.mirroring.MirrorFault.{MirrorFault}
