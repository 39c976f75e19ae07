-- How contracts see due entries: addresses as lists of bytes.
use Rattle.std.specs.Prelude.{ℕ, List, map}
use Rattle.pim_down.specs.Seen.{event_seen}
use Rattle.pim_audit.specs.declared.look.Report.{Report}
use Rattle.pim_audit.specs.declared.due.Due.{Due}
use Rattle.pim_audit.specs.Look.{DueEntry, Found}

module _ {A : Type 0} (bytes_of : A → List ℕ) where
  -- A due entry, with its addresses as lists of bytes.
  abbrev pub due_seen : Due A → DueEntry
  due_seen due = record { entry = event_seen bytes_of due.entry; since = due.since; is_reported = due.is_reported }

  -- Due entries, with their addresses as lists of bytes.
  abbrev pub dues_seen : List (Due A) → List DueEntry
  dues_seen due = map due_seen due

  -- What a look found by its report, with what is due afterwards.
  abbrev pub report_seen : List DueEntry → Report A → Found
  report_seen due report =
      record { due = due; new = map (event_seen bytes_of) report.new.items; ended = dues_seen report.ended.items; late = dues_seen report.late.items }
