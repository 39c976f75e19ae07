-- The words of other modules that the lemmas and answers of this crate cite.
pub use Rattle.pim_addr.specs.Routes.{RouteTable}
pub use Rattle.pim_addr.specs.declared.family.AddressFamily.{AddressFamily}
pub use Rattle.pim_device.specs.Device.{AppendsAll, AppendsFront}
pub use Rattle.pim_files.specs.Captures.{PortFiles, files_from, is_further, with_more}
pub use Rattle.pim_files.specs.Opening.{port_files}
pub use Rattle.pim_merge.specs.Lane.{LaneState, tallies_of}
pub use Rattle.pim_merge.specs.Next.{MergeState}
pub use Rattle.pim_words.specs.declared.fault.RouterSide.{RouterSide}
pub use Rattle.pim_words.specs.declared.task.More.{More}
pub use Rattle.pim_words.specs.declared.task.Port.{Port}
pub use Rattle.std.proofs.Common.{Bool, Err, IsErr, List, None, Ok, Option, Result, Some, [], ap, append_assoc}
pub use Rattle.std.proofs.Common.{arith, cond, drop, false, get_or, length, length-append, map, refl}
pub use Rattle.std.proofs.Common.{subst, suc, sym, take, true, ℕ, ◌++◌, ◌+◌, ◌-◌, ◌<◌, ◌∙◌, ◌∷◌, ◌≡◌, ◌≤◌}
pub use Rattle.std.proofs.lemmas.List.{drop_all, drop_more, length-set, length-take, take-append-le}
pub use Rattle.std.specs.Io.KnownBytes.{Appends}
pub use Rattle.std.specs.Prelude.{filter, is_some, slice_index_or, slice_set}
pub use Rattle.pim_warnings.specs.Census.{begun_at}
unfoldable pub use Rattle.pim_warnings.specs.Census.{begun_from}
pub use Rattle.pim_warnings.specs.Naming.{are_in, file_at, is_in, name_at, ports_of}
pub use Rattle.pim_warnings.specs.Warnings.{known, port_warnings, warnings_from, warnings_text}
