-- The words of other modules that the lemmas and answers of this crate cite.
pub use Rattle.pim_addr.specs.Routes.{RouteTable, rp_of}
pub use Rattle.pim_addr.specs.declared.family.AddressFamily.{AddressFamily}
pub use Rattle.pim_device.specs.Device.{AppendsAll, AppendsFront}
pub use Rattle.pim_form.specs.NormalForm.{Demand, GroupForm, IsFormOf}
pub use Rattle.pim_form.specs.Refused.{group_too_big}
pub use Rattle.pim_hello.specs.Delays.{delays_seen}
pub use Rattle.pim_hello.specs.Neighbours.{Neighbour, Table, no_neighbours}
pub use Rattle.pim_lines.specs.AnyAddress.{address_bytes}
pub use Rattle.pim_report.specs.EchoLine.{echo_line}
pub use Rattle.pim_report.specs.PacketLine.{verdict_line}
pub use Rattle.pim_report.specs.RecordLine.{record_line}
pub use Rattle.pim_report.specs.RefreshLine.{refresh_line}
pub use Rattle.pim_request.specs.Forms.{hex_bytes}
pub use Rattle.pim_request.specs.declared.command.Comparison.{Comparison}
pub use Rattle.pim_router.specs.Canonical.{IsDemandedBy, IsTooBig}
pub use Rattle.pim_router.specs.Course.{RouterReport, echo, refresh, runs_to, verdict}
unfoldable pub use Rattle.pim_router.specs.Course.{IsCourse, Reaches}
pub use Rattle.pim_router.specs.Laws.{EveryListHasACourse, RunHasOneEnd}
pub use Rattle.pim_router.specs.Seen.{packet_seen, step_seen}
pub use Rattle.pim_router.specs.State.{RouterState}
pub use Rattle.pim_router.specs.Time.{Runs, turns_left}
pub use Rattle.pim_router.specs.declared.step.Step.{Step}
pub use Rattle.pim_router.specs.declared.step.Step.TheVariants.{Echo, Reached, Refresh}
pub use Rattle.pim_text.specs.HelloText.{bit, delays_text, number_text}
pub use Rattle.pim_text.specs.Spell.{IsLong, stated_in, type_of}
pub use Rattle.std.proofs.Common.{Bool, Bor, Err, IfOk, IsErr, IsTrue, List, None, Ok, Option, Result, Some, []}
pub use Rattle.std.proofs.Common.{add-one, ap, append-nil, append_assoc, arith, codes, decimal, drop, false, get_or}
pub use Rattle.std.proofs.Common.{inl, inr, is_some, length, length-append, ltb, map, nat_le, nat_lt, not}
pub use Rattle.std.proofs.Common.{option_map, refl, rules, slice_index_or, subst, sym, take, true, ℕ, ◌*◌, ◌++◌}
pub use Rattle.std.proofs.Common.{◌+◌, ◌-◌, ◌<◌, ◌||◌, ◌∙◌, ◌∷◌, ◌≡◌, ◌≢◌, ◌≤◌, ◌⊎◌}
pub use Rattle.std.proofs.KnownBytes.{Appends-nil, Appends-trans}
pub use Rattle.std.proofs.lemmas.Bool.{false≢true, le-leb, le-ltb, lt-leb, ltb-false, ltb-true}
pub use Rattle.std.proofs.lemmas.List.{drop_more, get_or-map, length-map, length-take, length_push, map-set}
pub use Rattle.std.proofs.lemmas.List.{take-append-le, take_at}
pub use Rattle.std.specs.Io.KnownBytes.{Appends}
pub use Rattle.std.specs.List.{flat_map, position, position_or_len}
pub use Rattle.pim_answers.specs.Answered.{Answered, OrMemory, OrMemoryIf, Refused, RefusedIf, Wrote}
pub use Rattle.pim_answers.specs.Demanding.{AnswersFound, AnswersMessages, AreCompared, IfUsable, IsFirstBig}
pub use Rattle.pim_answers.specs.Demanding.{KeepsForm, SaysChange, SaysMade, SaysOf, SaysSame, UnlessAny, UnlessIf}
pub use Rattle.pim_answers.specs.Demanding.{has_other_family, kept_now, name_words, too_big_words, writer_of}
pub use Rattle.pim_answers.specs.Demanding.{writer_words}
pub use Rattle.pim_answers.specs.DemandingSeen.{IsFirst, SaysBig, form_fault_line, has_same_tables, made_text}
pub use Rattle.pim_answers.specs.DemandingSeen.{same_text}
pub use Rattle.pim_answers.specs.Families.{differ_from, family_words}
pub use Rattle.pim_answers.specs.Fault.{fault_words}
pub use Rattle.pim_answers.specs.Kept.{Kept, have_their_rps, is_usable, kept_as, kept_at, kept_with, lacks_place}
pub use Rattle.pim_answers.specs.Kept.{place_of, star_of, stars_of, with_kept}
pub use Rattle.pim_answers.specs.Lines.{fault_line, memory_line, ok_line}
pub use Rattle.pim_answers.specs.Neighbours.{neighbour_line, neighbours_text, option_words, parameters_words}
pub use Rattle.pim_answers.specs.Neighbours.{place_words, tables_text}
pub use Rattle.pim_answers.specs.Packets.{AnswersFrom, AnswersPacket, IsMessageOf, NeedsMemory, Takes, TakesShort}
pub use Rattle.pim_answers.specs.Packets.{TakesText, addresses_of, destination_of, lacks_port, packet_from}
pub use Rattle.pim_answers.specs.Packets.{packet_of, port_words}
pub use Rattle.pim_answers.specs.Reports.{AnswersNext, moment_line}
pub use Rattle.pim_answers.specs.Running.{AnswersRun}
unfoldable pub use Rattle.pim_answers.specs.Running.{Passes}
pub use Rattle.pim_answers.specs.RunningSeen.{step_line}
pub use Rattle.pim_answers.specs.StoreSeen.{IsFound, any_seen, entry_seen, form_seen, star_seen}
pub use Rattle.pim_answers.specs.declared.packets.FromText.{FromText}
