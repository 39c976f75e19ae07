-- The words of other modules that the lemmas and answers of this crate cite.
pub use Rattle.pim_addr.specs.Routes.{RouteTable}
pub use Rattle.pim_addr.specs.declared.family.AddressFamily.{AddressFamily}
pub use Rattle.pim_device.specs.Device.{AppendsAll}
pub use Rattle.pim_down.specs.Time.{Downstream}
pub use Rattle.pim_down.specs.declared.machines.machine.Record.{Record}
pub use Rattle.pim_form.specs.NormalForm.{GroupForm, IsFormOf}
pub use Rattle.std.proofs.Common.{Bool, List, None, Option, Some, [], add-one, arith, drop, map, option_map, refl}
pub use Rattle.std.proofs.Common.{rules, subst, suc, sym, true, zero, ℕ, ◌++◌, ◌+◌, ◌∙◌, ◌∷◌, ◌≡◌}
pub use Rattle.std.specs.List.{flat_map, slice_get}
pub use Rattle.pim_report.specs.DemandText.{exception_line, group_text, source_line, star_text, star_via}
pub use Rattle.pim_report.specs.DemandText.{starred_text}
pub use Rattle.pim_report.specs.MessageText.{message_line, message_line_of}
pub use Rattle.pim_report.specs.RecordLine.{record_line}
pub use Rattle.pim_report.specs.StateText.{machines_text, moment_line, text_with, wants_text}
