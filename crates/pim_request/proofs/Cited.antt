-- The words of other modules that the lemmas and answers of this crate cite.
pub use Rattle.pim_lines.specs.AnyAddress.{Names}
pub use Rattle.pim_lines.specs.declared.either.AnyAddress.{AnyAddress}
pub use Rattle.std.proofs.Common.{Bool, Err, IfErr, List, None, Ok, OnErr, Option, Result, Some, [], add-one, ap}
pub use Rattle.std.proofs.Common.{append-nil, append_assoc, arith, codes, cond, decimal, drop, eqb, false, get_or}
pub use Rattle.std.proofs.Common.{if◌then◌else◌, inl, inr, length, length-append, length-take, ltb, map, not, refl}
pub use Rattle.std.proofs.Common.{rules, subst, suc, sym, take, true, vec_capacity, zero, ℕ, ◌%◌, ◌&&◌, ◌*◌, ◌++◌}
pub use Rattle.std.proofs.Common.{◌+◌, ◌-◌, ◌/◌, ◌<◌, ◌==◌, ◌||◌, ◌∙◌, ◌∷◌, ◌≡◌, ◌≤◌, ◌⊎◌}
pub use Rattle.std.proofs.lemmas.Bool.{and_from, and_parts, eqb-false, eqb-true, false_from_ne_true, false≢true}
pub use Rattle.std.proofs.lemmas.Bool.{le-ltb, lt-ltb, ltb-false, ltb-true, ne_eqb}
pub use Rattle.std.proofs.lemmas.Fmt.{decimal_injective, decimal_is_IsNumeral}
pub use Rattle.std.proofs.lemmas.List.{drop_all, drop_more, get_or-append-add, get_or-append_right, get_or-take}
pub use Rattle.std.proofs.lemmas.List.{get_or_append_left, take-append-drop, take_all}
pub use Rattle.std.proofs.lemmas.List.Quantifiers.{position-Some}
pub use Rattle.std.proofs.lemmas.List.Splits.{join_with_byte-slice_split, slice_split-cons_no, slice_split_first}
pub use Rattle.std.specs.Borrow.{Bor}
pub use Rattle.std.specs.Char.{digit_value, is_digit}
pub use Rattle.std.specs.Io.KnownBytes.{Consumes, IsAtEnd, Keeps, prepend_known}
pub use Rattle.std.specs.List.{AllByRecursion, join_with_byte, list_all, list_any, onto_first, position}
pub use Rattle.std.specs.List.{position_or_len, slice_split}
pub use Rattle.std.specs.Option.{IfSome}
pub use Rattle.std.specs.Str.{bytes_eq}
pub use Rattle.pim_request.specs.Commands.{AreCommand, AreDelays, AreOptions, HasCommand, IsComparison}
pub use Rattle.pim_request.specs.Commands.{IsDestination, IsFaultAmong, IsFaultOf, IsKept, IsNumber, IsOption}
pub use Rattle.pim_request.specs.Commands.{IsPacket, IsPort, IsRow, IsSender, IsWordsFault, IsWriting, Usage}
pub use Rattle.pim_request.specs.Commands.{address_forms, budget_forms, comparison_forms, delays_forms}
pub use Rattle.pim_request.specs.Commands.{destination_forms, forms_in, kept_forms, no_words, number_forms}
pub use Rattle.pim_request.specs.Commands.{option_forms, packet_forms, port_forms, row_forms, sender_forms, usage}
pub use Rattle.pim_request.specs.Commands.{usages, writing_forms}
pub use Rattle.pim_request.specs.Forms.{AreOf, Begins, Expects, Fits, HasAddress, IsFault, IsFirst, IsFirstWrong}
pub use Rattle.pim_request.specs.Forms.{IsHex, IsPrefix, IsWord, IsWrongBy, OneOf, Slot, Takes, address, digits}
pub use Rattle.pim_request.specs.Forms.{hex_bytes, key, most, name, number, pieces_of, prefix, words_of}
pub use Rattle.pim_request.specs.Held.{AtOnce, Continues, EndsText, GivesSome, GivesTextItem, Held, HoldsText}
pub use Rattle.pim_request.specs.Held.{IsKnown, IsSome, IsSomeTaken, IsTextItem, KeepsLine, PassesBlank}
pub use Rattle.pim_request.specs.Held.{PassesLines, ReadsText, SameItems, TakesSome, has_send, reading_seen}
pub use Rattle.pim_request.specs.Input.{GivesLine, GivesMore, HasRead, IsCut, IsFeedAt, IsFound, IsPassed}
pub use Rattle.pim_request.specs.Input.{IsReached, IsSound, IsTaken, Lacks, Lines, NoFeed, Passes, Passing}
pub use Rattle.pim_request.specs.Input.{Proceeds, TakesLine, bytes_left, coming_lines, room, sort_seen}
pub use Rattle.pim_request.specs.Items.{IsAfterFirst, Text, a_line, a_long_line, a_text, begins_text, has_item}
pub use Rattle.pim_request.specs.Items.{has_long_line, is_blank, is_long, is_send, items_of, line_item, line_limit}
pub use Rattle.pim_request.specs.Items.{onto_whole, sent, text_after, text_limit, with_line}
unfoldable pub use Rattle.pim_request.specs.Items.{bytes_of_lines, items_from, lines_have_item, lines_of}
unfoldable pub use Rattle.pim_request.specs.Items.{whole_lines}
pub use Rattle.pim_request.specs.OneRequest.{NoFaultIfStated, NoSenderFaultIfStated, OneCommand, OneSender}
pub use Rattle.pim_request.specs.OneRequest.{OneSenderFault, OneWordsFault, SameCommand, SameComparison, SameFault}
pub use Rattle.pim_request.specs.OneRequest.{SameKept, SamePacket}
pub use Rattle.pim_request.specs.Reading.{EndsEarly, Holds, IsFirstItem, LeavesLess, PassesOn, Reading}
pub use Rattle.pim_request.specs.Steps.{IsFrontFault, IsHoldtime, IsHoldtimeFault, IsNone, IsSlotFault}
pub use Rattle.pim_request.specs.Steps.{names_of_kept, names_of_router, names_of_setup, pieces_left, words_left}
pub use Rattle.pim_request.specs.declared.command.AnyWriting.{AnyWriting}
pub use Rattle.pim_request.specs.declared.command.Command.{Command}
pub use Rattle.pim_request.specs.declared.command.Command.TheVariants.{Change, Keep, Limit, Messages, Neighbours}
pub use Rattle.pim_request.specs.declared.command.Command.TheVariants.{Next, Now, Port, Reset, Rp, Run, Same, Start}
pub use Rattle.pim_request.specs.declared.command.Command.TheVariants.{State, Via, Wants}
pub use Rattle.pim_request.specs.declared.command.Comparison.{Comparison}
pub use Rattle.pim_request.specs.declared.command.KeptWhat.{KeptWhat}
pub use Rattle.pim_request.specs.declared.command.Packet.{Packet}
pub use Rattle.pim_request.specs.declared.command.PortRow.{PortRow}
pub use Rattle.pim_request.specs.declared.command.RouteRow.{RouteRow}
pub use Rattle.pim_request.specs.declared.command.Sender.{Sender}
pub use Rattle.pim_request.specs.declared.command.WordsFault.{WordsFault}
pub use Rattle.pim_request.specs.declared.command.WordsFault.TheVariants.{Address, Hex, Word}
pub use Rattle.pim_request.specs.declared.input.Found.{Found}
pub use Rattle.pim_request.specs.declared.sort.Sort.TheVariants.{Blank, From, Other}
