-- The lines of a turn.
use Rattle.std.specs.Prelude.{ℕ, List, ◌++◌, Option, None, map}
use Rattle.std.specs.List.{flat_map}
use Rattle.pim_down.specs.Seen.{event_seen}
use Rattle.pim_events.specs.declared.event.OwnRestart.{OwnRestart}
use Rattle.pim_audit_events.specs.Lines.{Origin, Statement}
use Rattle.pim_audit.specs.declared.look.Report.{Report}
use Rattle.pim_audit.specs.declared.passing.Ended.{Ended}
use Rattle.pim_audit.specs.declared.turn.TurnReport.{TurnReport}
use Rattle.pim_audit.specs.Lines.{look_lines, gone_lines, message_lines, origin_if_heard}
use Rattle.pim_audit.specs.Seen.{dues_seen}

module _ {A : Type 0} (bytes_of : A → List ℕ) where
  -- The lines of a look at this moment. `origin` is that of the message that was heard just before,
  -- if one was.
  abbrev pub report_lines : ℕ → Option Origin → Report A → List Statement
  report_lines moment origin report = look_lines moment origin (dues_seen bytes_of report.ended.items)
      (map (event_seen bytes_of) report.new.items) (dues_seen bytes_of report.late.items)

  -- The lines of an end of a time.
  abbrev pub end_lines : Ended A → List Statement
  end_lines ended = gone_lines ended.moment ended.is_gone ++ report_lines ended.moment None ended.report

  -- The lines of a turn at this moment, in the order of what happens. The message of its record, if
  -- it has one, comes from `origin`, and says of this restart of the router itself.
  abbrev pub turn_lines : ℕ → Option Origin → Option OwnRestart → TurnReport A → List Statement
  turn_lines moment origin restart report =
      flat_map end_lines report.ended.items
      ++ (report_lines moment None report.before
      ++ (message_lines moment origin report.effect restart
      ++ report_lines moment (origin_if_heard origin report.effect) report.after))
