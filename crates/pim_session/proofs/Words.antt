-- The words of other modules that the lemmas and answers of this crate cite.
pub use Rattle.pim_addr.specs.Routes.{IsRefusedBy, Prefix, RouteTable, is_group_prefix, no_routes, prefix_faults}
pub use Rattle.pim_addr.specs.Routes.{room_faults, rp_faults, via_faults, with_rp, with_via}
pub use Rattle.pim_addr.specs.declared.family.AddressFamily.{AddressFamily}
pub use Rattle.pim_addr.specs.declared.family.AddressFamily.TheVariants.{Ipv4, Ipv6}
pub use Rattle.pim_addr.specs.declared.route_fault.RouteFault.{RouteFault}
pub use Rattle.pim_answers.specs.Answered.{Answered, Done, OrMemory, Part, RefusedBy, RefusedIf, Whole}
pub use Rattle.pim_answers.specs.Demanding.{AnswersKeep}
pub use Rattle.pim_answers.specs.Families.{differ_from, family_words}
pub use Rattle.pim_answers.specs.Fault.{done_text, fault_words}
pub use Rattle.pim_answers.specs.Kept.{Kept, kept_as, with_kept}
pub use Rattle.pim_answers.specs.Lines.{fault_line, memory_line, ok_line}
pub use Rattle.pim_answers.specs.Packets.{AnswersFrom, AnswersPacket}
pub use Rattle.pim_answers.specs.Running.{AnswersRun}
pub use Rattle.pim_answers.specs.StoreSeen.{IsFound, store_seen}
pub use Rattle.pim_answers.specs.declared.fault.AnswerFault.{AnswerFault}
pub use Rattle.pim_answers.specs.declared.packets.FromText.{FromText}
pub use Rattle.pim_device.specs.Device.{AppendsAll, AppendsFront}
pub use Rattle.pim_lines.specs.AnyAddress.{address_bytes, is_in}
pub use Rattle.pim_request.specs.Commands.{IsSenderFault, States, StatesSender}
pub use Rattle.pim_request.specs.Items.{Item, Text, a_line, a_long_line, a_text, bytes_of_lines, has_long_line}
pub use Rattle.pim_request.specs.Items.{items_of, line_limit, text_limit}
pub use Rattle.pim_request.specs.OneRequest.{NoFaultIfStated, NoSenderFaultIfStated, OneCommand, OneSender}
pub use Rattle.pim_request.specs.OneRequest.{OneSenderFault, OneWordsFault, SameCommand, SameFault}
pub use Rattle.pim_request.specs.Reading.{GivesItem, Holds, IsFirstItem, IsItem, IsText, LeavesLess, Reading}
pub use Rattle.pim_request.specs.declared.command.Command.TheVariants.{Change, Keep, Limit, Messages, Neighbours}
pub use Rattle.pim_request.specs.declared.command.Command.TheVariants.{Next, Now, Packet, Port, Reset, Rp, Run}
pub use Rattle.pim_request.specs.declared.command.Command.TheVariants.{Same, Start, State, Via, Wants}
pub use Rattle.pim_request.specs.declared.command.PortRow.{PortRow}
pub use Rattle.pim_request.specs.declared.command.RouteRow.{RouteRow}
pub use Rattle.pim_request.specs.declared.command.Sender.{Sender}
pub use Rattle.pim_request.specs.declared.command.WordsFault.{WordsFault}
pub use Rattle.pim_request.specs.declared.input.Stopped.{Stopped}
pub use Rattle.pim_router.specs.Config.{IsMadeUnless, config_faults}
pub use Rattle.pim_router.specs.State.{RouterState, new_router}
pub use Rattle.pim_text.specs.Read.{IsRead, IsWrongLine}
pub use Rattle.pim_text.specs.declared.line.Stated.{Stated}
pub use Rattle.std.proofs.Common.{Bool, Err, List, None, Ok, Option, Result, Some, [], ap, append-nil, append_assoc}
pub use Rattle.std.proofs.Common.{arith, codes, decimal, false, inl, inr, length, length-append, map, min, nat_lt}
pub use Rattle.std.proofs.Common.{not, refl, subst, suc, sym, take, true, ℕ, ◌&&◌, ◌++◌, ◌+◌, ◌<◌, ◌==◌, ◌∙◌, ◌∷◌}
pub use Rattle.std.proofs.Common.{◌≡◌, ◌≢◌, ◌≤◌, ◌⊎◌}
pub use Rattle.std.proofs.KnownBytes.{Appends-trans}
pub use Rattle.std.proofs.lemmas.Bool.{false≢true, lt-ltb, ltb-false, ltb-true}
pub use Rattle.std.specs.Io.KnownBytes.{Appends, Keeps}
pub use Rattle.std.specs.Option.{IfSome}
pub use Rattle.pim_session.specs.Answers.{Answers, AnswersAfter, AnswersBefore, AnswersIn, Gathering, Gathers}
pub use Rattle.pim_session.specs.Answers.{NotStarted, Reports, Serves, Serving, Starting, session_in}
pub use Rattle.pim_session.specs.Dialog.{AnswersAll, AnswersFirst, Converses, IsAnswer, Wrote}
unfoldable pub use Rattle.pim_session.specs.Dialog.{IsDialog}
pub use Rattle.pim_session.specs.Gathering.{AddsPort, AddsRow, AddsRp, AddsVia, Starts, StartsIn, config_words}
pub use Rattle.pim_session.specs.Gathering.{family_of, family_with, prefix_of, route_words, setup_of, with_limit}
pub use Rattle.pim_session.specs.Gathering.{with_port, with_routes}
pub use Rattle.pim_session.specs.Request.{IsBadText, IsFrom, IsTextFault, IsWrongIn, Requests, RequestsLine}
pub use Rattle.pim_session.specs.Request.{RequestsText, RequestsTextOf, long_line_words, wrong_words}
pub use Rattle.pim_session.specs.RouterSeen.{IsKeptFor, StartsSo, family_in, name_in, state_in}
pub use Rattle.pim_session.specs.Seen.{IsFitCommand, RequestsFrom, request_seen}
pub use Rattle.pim_session.specs.SetupSeen.{Adds, AddsFirst, AddsTo, IsAdded, any_seen, first_address, fixed_after}
pub use Rattle.pim_session.specs.SetupSeen.{gathered_seen, row_in, rows_seen}
pub use Rattle.pim_session.specs.State.{Gathered, Phase, Session, gathering, nothing_gathered, serving}
pub use Rattle.pim_session.specs.Underway.{Begins, BeginsServing, Configured, Ended, GoesOn, IsRefused, Went}
pub use Rattle.pim_session.specs.Underway.{session_after}
pub use Rattle.pim_session.specs.declared.request.Request.{Request}
pub use Rattle.pim_session.specs.declared.request.Request.TheVariants.{Command, From}
pub use Rattle.pim_session.specs.declared.routers.AnyRouter.{AnyRouter}
pub use Rattle.pim_session.specs.declared.serving.SessionEnd.{SessionEnd}
pub use Rattle.pim_session.specs.declared.setup.AnyRow.{AnyRow}
pub use Rattle.pim_session.specs.declared.setup.AnyRows.{AnyRows}
pub use Rattle.pim_session.specs.declared.setup.AnyRows.TheVariants.{Free}
