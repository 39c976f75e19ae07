-- The words of other modules that the lemmas and answers of this crate cite.
pub use Rattle.pim_addr.specs.Faults.{judged}
pub use Rattle.pim_addr.specs.Routes.{RouteTable}
pub use Rattle.pim_addr.specs.declared.family.AddressFamily.{AddressFamily}
pub use Rattle.pim_device.specs.Device.{AppendsFront}
pub use Rattle.pim_exchange.specs.Fault.{failures_of_exchange}
pub use Rattle.pim_exchange.specs.declared.fault.ExchangeFault.{ExchangeFault}
pub use Rattle.pim_faults.specs.Ending.{IsReported}
pub use Rattle.pim_faults.specs.declared.fault.Fault.{Fault}
pub use Rattle.pim_faults.specs.declared.fault.Fault.TheVariants.{Capture, File, Frame, Full, Hello, InFile}
pub use Rattle.pim_faults.specs.declared.fault.Fault.TheVariants.{InputRead, InputTooLong, JoinPrune, Memory}
pub use Rattle.pim_faults.specs.declared.fault.Fault.TheVariants.{LocalLine, LocalRead, LocalTooLong, Output, RoutesLine, RoutesRead, RoutesTooLong}
pub use Rattle.pim_faults.specs.declared.fault.Fault.TheVariants.{TextFamily, TextLine, TextTooLong, TooBig}
pub use Rattle.pim_faults.specs.declared.fault.Fault.TheVariants.{Unopened, Words}
pub use Rattle.pim_files.specs.Captures.{PortFiles, files_from, is_further, of_router, with_more}
pub use Rattle.pim_files.specs.Opening.{AreOpen, IsOpenWithLocal, port_files}
pub use Rattle.pim_frame.specs.Frame.{Content, content, frame_faults, hello, join_prune, other}
pub use Rattle.pim_jp.specs.Faults.{faults}
pub use Rattle.pim_merge.specs.Lane.{IsComing}
pub use Rattle.pim_merge.specs.Next.{MergeState}
pub use Rattle.pim_router.specs.Config.{IsMadeUnless, config_faults}
pub use Rattle.pim_router.specs.Seen.{port_seen, setup_seen}
pub use Rattle.pim_router.specs.State.{RouterState, Setup, new_router}
pub use Rattle.pim_router.specs.declared.config.PortConfig.{PortConfig}
pub use Rattle.pim_text.specs.HelloText.{hello_text}
pub use Rattle.pim_text.specs.JoinPruneText.{message_text}
pub use Rattle.pim_words.specs.declared.task.More.{More}
pub use Rattle.pim_words.specs.declared.task.Port.{Port}
pub use Rattle.std.proofs.Common.{Bool, Err, List, None, Ok, Option, Result, Some, [], ap}
pub use Rattle.std.proofs.Common.{arith, cond, drop, false, inl, inr, length, map, refl}
pub use Rattle.std.proofs.Common.{subst, sym, true, ℕ, ◌++◌, ◌∙◌, ◌∷◌, ◌≡◌, ◌≤◌}
pub use Rattle.std.proofs.lemmas.List.{length-map}
pub use Rattle.std.specs.Io.KnownBytes.{Appends, Keeps}
pub use Rattle.std.specs.Prelude.{IfOk, IfSome, filter, if◌then◌else◌}
pub use Rattle.pim_commands.specs.Answers.{answer_of}
pub use Rattle.pim_warnings.specs.Census.{begun}
pub use Rattle.pim_commands.specs.Commands.{engine_of, engine_seen, upstream_of}
pub use Rattle.pim_commands.specs.Engines.{Does, Runs, RunsBoth, RunsOne, of_replayed, of_traced}
pub use Rattle.pim_commands.specs.Shown.{files_shown}
pub use Rattle.pim_warnings.specs.Naming.{file_at, in_file, is_in, is_memory}
pub use Rattle.pim_warnings.specs.Naming.{port_fault}
pub use Rattle.pim_commands.specs.Opening.{OneRuns, Opens, OpensNot, OverBoth, OverOne}
pub use Rattle.pim_commands.specs.Report.{Explains, IsMessageFault, IsStated, Reports, body_report, content_faults}
pub use Rattle.pim_commands.specs.Report.{content_text, hello_report, input_report, message_faults, message_report}
pub use Rattle.pim_commands.specs.Report.{write_failures_after}
pub use Rattle.pim_commands.specs.Routers.{IsFirstCause, IsWriterOf, config_causes, config_fault, config_of, end_of}
pub use Rattle.pim_commands.specs.Routers.{setup_in, writer_causes, writing_of}
pub use Rattle.pim_commands.specs.Tracing.{TracesAsAsked, line_of, names_of, selection_of}
