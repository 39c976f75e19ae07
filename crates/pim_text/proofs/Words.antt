-- The words of other modules that the lemmas and answers of this crate cite.
pub use Rattle.byteorder.specs.Endian.{big_bytes, big_number}
pub use Rattle.pim_addr.specs.Address.{IsAddress, address_length}
pub use Rattle.pim_addr.specs.Canonical.{GroupReadsBack, SourceReadsBack, canonical_group}
pub use Rattle.pim_addr.specs.Encoded.{group_length, masked_address, source_length, source_value}
pub use Rattle.pim_addr.specs.Text.{address_text}
pub use Rattle.pim_addr.specs.TextForms.{AreEightGroups, IsText, OneAddress, WrittenTextNames}
pub use Rattle.pim_addr.specs.declared.family.AddressFamily.{AddressFamily}
pub use Rattle.pim_addr.specs.declared.family.AddressFamily.TheVariants.{Ipv4, Ipv6}
pub use Rattle.pim_hello.specs.Hello.{Parameters}
pub use Rattle.pim_hello.specs.Kept.{parameters_seen}
pub use Rattle.pim_hello.specs.Seen.{addresses_seen, hello_seen}
pub use Rattle.pim_hello.specs.Spelling.{Fits, ParametersFit, ReadsBack, if_there, parameters_spelled, row_spelled}
pub use Rattle.pim_hello.specs.Spelling.{row_there, spelling_of}
unfoldable pub use Rattle.pim_hello.specs.Spelling.{AreAddresses}
pub use Rattle.pim_jp.specs.Canonical.{IsMessage, IsMessageEntry, IsMessageSet, canonical, canonical_entry}
pub use Rattle.pim_jp.specs.Canonical.{canonical_head, canonical_head_length, canonical_set}
pub use Rattle.pim_jp.specs.Message.{GroupSet}
pub use Rattle.pim_jp.specs.declared.entry.Entry.{Entry}
pub use Rattle.pim_jp.specs.declared.entry.Entry.TheVariants.{Rpt, Source, Star}
pub use Rattle.pim_lines.specs.AnyAddress.{IsUnread, Names, address_bytes, address_in, is_in}
pub use Rattle.pim_lines.specs.declared.either.AnyAddress.{AnyAddress}
pub use Rattle.pim_lines.specs.declared.either.AnyAddress.TheVariants.{V4, V6}
pub use Rattle.std.proofs.Common.{Bool, Err, List, MatchOption, None, Ok, Option, Result, Some, [], add-one, ap}
pub use Rattle.std.proofs.Common.{append-nil, append_assoc, ap₂, arith, codes, cond, decimal, drop, drop_at, eqb}
pub use Rattle.std.proofs.Common.{false, get_or, if◌then◌else◌, inl, inr, length, length-append, lit<, lit≤, ltb}
pub use Rattle.std.proofs.Common.{refl, subst, suc, suc-mul, sym, take, true, zero, zero-mul, ℕ, ◌&&◌, ◌*◌, ◌++◌}
pub use Rattle.std.proofs.Common.{◌+◌, ◌-◌, ◌<◌, ◌==◌, ◌^◌, ◌||◌, ◌∙◌, ◌∷◌, ◌≡◌, ◌≤◌, ◌⊎◌}
pub use Rattle.std.proofs.Math.Seq.{drop-append-add, drop-append_seam, take-append_seam}
pub use Rattle.std.proofs.lemmas.Bool.{eqb-false, false≢true, le-leb, le-ltb, leb-true, lt-leb, lt-ltb, ltb-false}
pub use Rattle.std.proofs.lemmas.Bool.{ltb-true, ne_eqb}
pub use Rattle.std.proofs.lemmas.Fmt.{decimal_injective, decimal_is_IsNumeral, parse-decimal}
pub use Rattle.std.proofs.lemmas.List.{append_cancel_left, length-drop, length-map, length-replicate}
pub use Rattle.std.proofs.lemmas.List.Folds.{list_all-append}
pub use Rattle.std.specs.List.{AllByRecursion, flat_map, list_any, onto_first, position, position_or_len}
pub use Rattle.std.specs.Prelude.{IfErr, IfOk, IfSome, map, nat_le, replicate, slice_index}
pub use Rattle.std.specs.Str.{IsAscii, IsUtf8, bytes_eq}
pub use Rattle.std.specs.Str.Parse.{AllDigits, ParsesUnsigned}
pub use Rattle.pim_text.specs.Expected.{Advanced, IsStep, IsUnexpected, OnlyStep, after, after_all, after_body}
pub use Rattle.pim_text.specs.Expected.{ends, expects_options, is_option, is_whole, onward, option_after}
pub use Rattle.pim_text.specs.Families.{all_in, entry_is_in, line_is_in, value_is_in}
pub use Rattle.pim_text.specs.Fields.{IsField, IsLed}
pub use Rattle.pim_text.specs.HelloText.{address_line, bit}
pub use Rattle.pim_text.specs.JoinPruneText.{entry_line, entry_words, message_line, message_text, set_line}
pub use Rattle.pim_text.specs.JoinPruneText.{set_text}
pub use Rattle.pim_text.specs.Laws.{StatedInItsFamily, StatesIn}
pub use Rattle.pim_text.specs.Lines.{AreLines, IsAddressAfter, IsEntry, IsEntryLine, IsLine, delays_text}
pub use Rattle.pim_text.specs.Lines.{number_text, numbers_text}
unfoldable pub use Rattle.pim_text.specs.Lines.{lines}
pub use Rattle.pim_text.specs.OneReading.{LongBody, NoWrongLineIfStated, OneBody, OneMessage, OneName, OneRead}
pub use Rattle.pim_text.specs.OneReading.{OneWrongLine}
pub use Rattle.pim_text.specs.Read.{Begin, IsRead, IsWrongLine, States, is_hello}
pub use Rattle.pim_text.specs.Spell.{IsLong, IsSpelled, IsTextFault, reported, stated_in, type_of}
pub use Rattle.pim_text.specs.Spelled.{IsMessageFault, StatesMessage, entry_bytes, line_bytes}
pub use Rattle.pim_text.specs.SpelledHello.{DelaysFit, HaveLength, IsHelloFault, IsTooLong, SpellsHello}
pub use Rattle.pim_text.specs.SpelledHello.{StatesHello, hello_of, line_addresses, with_line}
pub use Rattle.pim_text.specs.Text.{line}
pub use Rattle.pim_text.specs.Value.{HelloValue, SetValue, TextValue, a_hello, a_message, delays_line_of, entry_in}
pub use Rattle.pim_text.specs.Value.{hello_in, message_in, option_line, option_lines, set_in, set_lines}
pub use Rattle.pim_text.specs.Value.{value_lines}
pub use Rattle.pim_text.specs.declared.build.fault.BuildFault.{BuildFault}
pub use Rattle.pim_text.specs.declared.build.fault.BuildFault.TheVariants.{Memory, Read}
pub use Rattle.pim_text.specs.declared.line.DelayLine.{DelayLine}
pub use Rattle.pim_text.specs.declared.line.Expected.{Expected}
pub use Rattle.pim_text.specs.declared.line.Expected.TheVariants.{Message, Options}
pub use Rattle.pim_text.specs.declared.line.Line.{Line}
pub use Rattle.pim_text.specs.declared.line.Line.TheVariants.{Delays, Generation, Head, Hello, Holdtime, Join}
pub use Rattle.pim_text.specs.declared.line.Line.TheVariants.{Priority, Prune, Secondary, Set}
pub use Rattle.pim_text.specs.declared.line.LineStep.{LineStep}
pub use Rattle.pim_text.specs.declared.line.SetLine.{SetLine}
