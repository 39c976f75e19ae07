-- The words of other modules that the lemmas and answers of this crate cite.
pub use Rattle.pim_addr.specs.declared.family.AddressFamily.{AddressFamily}
pub use Rattle.pim_device.specs.Device.{AppendsAll}
pub use Rattle.pim_events.specs.Events.{cause_seen, fired_seen, greeting_seen, held_seen, ignored_seen, time_out_seen}
pub use Rattle.pim_events.specs.Events.{transition_seen, wanted_seen}
pub use Rattle.pim_events.specs.Parts.{state_in}
pub use Rattle.pim_events.specs.declared.event.Cause.{Cause}
pub use Rattle.pim_events.specs.declared.event.Fired.{Fired}
pub use Rattle.pim_events.specs.declared.event.Greeting.{Greeting}
pub use Rattle.pim_events.specs.declared.event.HeldMachine.{HeldMachine}
pub use Rattle.pim_events.specs.declared.event.Ignored.{Ignored}
pub use Rattle.pim_events.specs.declared.event.OwnRestart.{OwnRestart}
pub use Rattle.pim_events.specs.declared.event.SkipCounts.{SkipCounts}
pub use Rattle.pim_events.specs.declared.event.TimeOut.{TimeOut}
pub use Rattle.pim_events.specs.declared.event.TransitionEvent.{TransitionEvent}
pub use Rattle.pim_events.specs.declared.event.WantedEntry.{WantedEntry}
pub use Rattle.pim_lines.specs.Pieces.{line}
pub use Rattle.pim_lines.specs.ShortText.{short_text}
pub use Rattle.pim_report.specs.RecordLine.{state_name}
pub use Rattle.std.proofs.Common.{List, Option, Some, [], codes, decimal, length, refl, rules, subst, ℕ, ◌*◌, ◌++◌}
pub use Rattle.std.proofs.Common.{◌+◌, ◌-◌, ◌∙◌, ◌∷◌, ◌≡◌, ◌≤◌}
pub use Rattle.pim_event_lines.specs.Counts.{joined_in, pruned_in}
pub use Rattle.pim_event_lines.specs.TextLine.{by_words, cause_line, cause_words, change_text, counts_text}
pub use Rattle.pim_event_lines.specs.TextLine.{echo_text, effect_text, entry_text, generation_part, generation_text}
pub use Rattle.pim_event_lines.specs.TextLine.{greeting_text, held_text, name_of, overrides_part, restart_line}
pub use Rattle.pim_event_lines.specs.TextLine.{restarted_part, sender_text, source_words, state_text, time_out_line}
pub use Rattle.pim_event_lines.specs.TextLine.{timer_words}
