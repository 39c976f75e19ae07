-- The words of other modules that the lemmas and answers of this crate cite.
pub use Rattle.clap.proofs.WalkLemmas.{both, first_value-rows, raw_values-rows}
pub use Rattle.clap.specs.Facts.{parser_of_value, unwrap_or_range}
pub use Rattle.clap.specs.Kinds.{value_kinds}
pub use Rattle.clap.specs.Simple.{Shape, argument_words, entered, label_of, names_of, rows_at}
pub use Rattle.clap.specs.Walk.{answers_to, stop_after}
pub use Rattle.clap.specs.Words.{App, HasKind, IsAmong, Kinds, Row, Rule, Text, all_of, app_of, built, fault_of}
pub use Rattle.clap.specs.Words.{first_of, found_of, kind_of, rows_of, subcommand_of, subcommand_rows_of, takes}
pub use Rattle.clap.specs.Words.{with_rule, with_subcommand}
pub use Rattle.clap.specs.declared.builder.command.Command.TheViews.{out-Command}
pub use Rattle.clap.specs.declared.builder.value_parser.ValueParser.TheVariants.{Unsigned}
pub use Rattle.clap.specs.declared.error.kind.ErrorKind.{ErrorKind}
pub use Rattle.clap.specs.declared.error.kind.ErrorKind.TheVariants.{OutOfMemory, TooManyValues}
pub use Rattle.pim_addr.specs.declared.family.AddressFamily.{AddressFamily}
pub use Rattle.pim_lines.specs.AnyAddress.{IsRead, Names, address_in, is_in}
pub use Rattle.pim_lines.specs.declared.either.AnyAddress.{AnyAddress}
pub use Rattle.std.proofs.Common.{Bool, Err, IfOk, List, MatchResult, None, Ok, Option, Result, Some, [], ap}
pub use Rattle.std.proofs.Common.{append-nil, append_assoc, arith, codes, cond, drop, false, get_or, inl, inr}
pub use Rattle.std.proofs.Common.{length, lit<, map, not, option_map, refl, subst, suc, sym, true, ℕ, ◌&&◌, ◌++◌}
pub use Rattle.std.proofs.Common.{◌+◌, ◌-◌, ◌<◌, ◌==◌, ◌||◌, ◌∙◌, ◌∷◌, ◌≡◌, ◌≢◌, ◌≤◌}
pub use Rattle.std.proofs.lemmas.Bool.{eqb-true, false≢true, ne_eqb}
pub use Rattle.std.proofs.lemmas.List.{at_drop_more, drop_all, drop_more, length-append, length-map, map-append}
pub use Rattle.std.proofs.lemmas.Result.{IfOk-weaker, err_from_is_err_and}
pub use Rattle.std.proofs.lemmas.Str.Pattern.{contains_char, split_after, split_parts}
pub use Rattle.std.specs.Borrow.{Bor}
pub use Rattle.std.specs.List.{AllByRecursion, AllZip, fold, list_all}
pub use Rattle.std.specs.Option.{UnwrapsOrElse, option_map_or}
pub use Rattle.std.specs.Prelude.{IfSome, IsSomeAnd, count_by, filter, find, if◌then◌else◌, is_err, is_ok, is_some}
pub use Rattle.std.specs.Prelude.{unwrap_or, ◌⊎◌}
pub use Rattle.std.specs.Str.{bytes_eq, chars}
pub use Rattle.std.specs.Str.Parse.{digits_value, without_leading_plus}
pub use Rattle.pim_words.specs.Ends.{IsEarly, IsTimed, IsTimely, are_both_given, has_two_ends, time_text}
pub use Rattle.pim_words.specs.Labels.{AreLabelled, AreLabelledAfter, IsFirstWrong, IsLabelled, IsWrongLabelled}
pub use Rattle.pim_words.specs.Labels.{LacksEqualSign, has_name, is_fresh}
pub use Rattle.pim_words.specs.Links.{AreChosenLinks, AreLinkedFrom, ArePicks, ArePicksAfter, IsFirstWrongPick}
pub use Rattle.pim_words.specs.Links.{IsLinkText, IsNoLink, IsNoPick, IsNoPortNumber, IsNoTarget, IsNoVlan, IsPick}
pub use Rattle.pim_words.specs.Links.{IsPortNumber, IsTarget, LacksPoint, is_same_port, word_count}
unfoldable pub use Rattle.pim_words.specs.Links.{pick_for}
pub use Rattle.pim_words.specs.Plan.{AreFurther, AreNames, HasCause, HasGrace, HasWrong, IsBounded, IsFaultless}
pub use Rattle.pim_words.specs.Plan.{IsFirstFault, IsInRange, IsLimited, IsPlanInRange, IsPlanOf, IsPlanOfTask, IsTaskOf}
pub use Rattle.pim_words.specs.Plan.{IsWritable, IsWrongOf, IsWrongTask, Plans, refusal_fault}
pub use Rattle.pim_words.specs.Ports.{AreMore, ByKind, IsMore, IsRightMore, IsWrongMore, LacksAtSign, is_more}
pub use Rattle.pim_words.specs.Ports.{more_words, port_words}
pub use Rattle.pim_words.specs.Reading.{AreCaptures, ArePorts, AreRead, AreWrongPorts, IsTask, IsUnreadable}
pub use Rattle.pim_words.specs.Reading.{IsWriting, IsWrongRun, IsWrongRunOf, IsWrongTrace, ReadsAddressOption}
pub use Rattle.pim_words.specs.Rows.{program, rule_by, shape_by, with_rows}
pub use Rattle.pim_words.specs.Seen.{AreAudited, AreWritten, HasNumbers, IsForeign, IsGiven, IsOffered, OrMemory, are_tested}
pub use Rattle.pim_words.specs.Seen.{has_range, is_tested, with_links}
pub use Rattle.pim_words.specs.Shown.{AreShownAddresses, IsShown, IsUnreadText, IsWrongChoice, IsWrongShown}
pub use Rattle.pim_words.specs.Typed.{IsPlanFor, SameAuditing, SameCaptures, SameTask, SameTracing, SameWriting}
pub use Rattle.pim_words.specs.Typed.{port_seen}
pub use Rattle.pim_words.specs.declared.fault.CommandFault.{CommandFault}
pub use Rattle.pim_words.specs.declared.fault.CommandFault.TheVariants.{Family, Memory}
pub use Rattle.pim_words.specs.declared.links.Links.{Links}
pub use Rattle.pim_words.specs.declared.task.Captures.{Captures}
pub use Rattle.pim_words.specs.declared.task.CommandKind.{CommandKind}
pub use Rattle.pim_words.specs.declared.task.CommandKind.TheVariants.{Audit, Build, Change, Check, Emit, Mirror, Replay}
pub use Rattle.pim_words.specs.declared.task.CommandKind.TheVariants.{Same, Trace}
pub use Rattle.pim_words.specs.declared.task.CommandPlan.{CommandPlan}
pub use Rattle.pim_words.specs.declared.task.CommandPlan.TheVariants.{Session, V4, V6}
pub use Rattle.pim_words.specs.declared.task.More.{More}
pub use Rattle.pim_words.specs.declared.task.Port.{Port}
pub use Rattle.pim_words.specs.declared.task.Task.{Task}
