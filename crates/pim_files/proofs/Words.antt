-- The words of other modules that the lemmas and answers of this crate cite.
pub use Rattle.pim_addr.specs.Routes.{RouteTable, Row}
pub use Rattle.pim_addr.specs.TextForms.{IsText, OneAddress}
pub use Rattle.pim_addr.specs.declared.family.AddressFamily.{AddressFamily}
pub use Rattle.pim_capture.specs.Capture.{Answer, answers}
pub use Rattle.pim_merge.specs.Lane.{LaneState, coming_on, tallies_of}
pub use Rattle.pim_merge.specs.Next.{IsUntaken, MergeState}
pub use Rattle.pim_words.specs.Faults.{is_of, is_side}
pub use Rattle.pim_words.specs.declared.fault.RouterSide.TheVariants.{A, B}
pub use Rattle.pim_words.specs.declared.task.More.{More}
pub use Rattle.pim_words.specs.declared.task.Port.{Port}
pub use Rattle.std.proofs.Common.{Bool, List, None, Option, Some, [], add-one, ap, append-nil, append_assoc, arith}
pub use Rattle.std.proofs.Common.{codes, cond, decimal, drop, false, get_or, inl, inr, length, lit<, lit≤, ltb, map}
pub use Rattle.std.proofs.Common.{refl, subst, suc, sym, take, true, vec_len, zero, ℕ, ◌++◌, ◌+◌, ◌<◌, ◌∙◌, ◌∷◌}
pub use Rattle.std.proofs.Common.{◌≡◌, ◌≤◌}
pub use Rattle.std.proofs.Math.Seq.{take-append_seam}
pub use Rattle.std.proofs.lemmas.Bool.{false≢true, le-ltb, ltb-false, ltb-true}
pub use Rattle.std.proofs.lemmas.List.{append_cancel_left, drop_more, length-append, length-drop, length-map}
pub use Rattle.std.proofs.lemmas.List.{map-append, take-append-drop, take_all}
pub use Rattle.std.proofs.lemmas.List.Elements.{filter-append, filter_more}
pub use Rattle.std.proofs.lemmas.List.Splits.{length-slice_split, slice_split-cons_no, slice_split_first}
pub use Rattle.std.proofs.lemmas.List.Sums.{count_by-le-length, position_or_len_is}
pub use Rattle.std.proofs.lemmas.Result.{err_from_is_err_and}
pub use Rattle.std.specs.List.{AllByRecursion, filter, onto_first, position, position_or_len, slice_split}
pub use Rattle.std.specs.Prelude.{IfNone, IfOk, IsSome, MatchOption, bytes_eq, slice_index_or}
pub use Rattle.std.specs.Str.{IsAscii, IsUtf8}
pub use Rattle.std.specs.Str.Parse.{AllDigits, digits_value}
pub use Rattle.pim_files.specs.Captures.{AddsLane, AddsUntaken, AreFiles, AreReaders, CanOpen, FileOfName}
pub use Rattle.pim_files.specs.Captures.{HaveFiles, HoldFiles, IsPortFault, IsReaderOf, PortFiles, StopsAt}
pub use Rattle.pim_files.specs.Captures.{all_files, are_of, choice_of, files_from, files_of, first_file}
pub use Rattle.pim_files.specs.Captures.{further_file, given_by, is_further, names_of, of_router, one_of, results_by}
pub use Rattle.pim_files.specs.Captures.{results_of, with_more}
pub use Rattle.pim_files.specs.Files.{Files, Known, RequestsFor, RequestsFront}
pub use Rattle.pim_files.specs.Held.{held_content}
pub use Rattle.pim_files.specs.Opening.{AreOpen, IsUnopened, file_names, port_files}
pub use Rattle.pim_files.specs.LineFile.{file_limit, is_passed_over, lines_of}
pub use Rattle.pim_files.specs.RoutesFile.{Adds, AreAdded, AreRows, IsDecimal, IsRow, Leads, bits_of, row_faults}
pub use Rattle.pim_files.specs.RoutesFile.{with_file_row}
pub use Rattle.pim_files.specs.Table.{IsFileFault, IsTable, name_of, table_names}
pub use Rattle.pim_files.specs.declared.fault.OpenFault.{OpenFault}
pub use Rattle.pim_files.specs.declared.routes.row.FileRow.{FileRow}
pub use Rattle.pim_files.specs.declared.routes.row.FileRow.TheVariants.{Rp, Via}
