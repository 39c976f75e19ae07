-- How contracts see the lines of an audit: addresses as lists of bytes.
use Rattle.std.specs.Prelude.{ℕ, List, map}
use Rattle.std.specs.Option.{option_map}
use Rattle.pim_down.specs.Seen.{event_seen}
use Rattle.pim_audit_events.specs.declared.line.AuditEvent.{AuditEvent}
use Rattle.pim_audit_events.specs.declared.line.AuditEvent.TheVariants.{Due, Late, Sent, Dropped, Lost, Full, Restarted, End}
use Rattle.pim_audit_events.specs.declared.line.AuditLine.{AuditLine}
use Rattle.pim_audit_events.specs.declared.line.MessageOrigin.{MessageOrigin}
use Rattle.pim_audit_events.specs.Lines.{Origin, Saying, due, late, sent, dropped, lost, full, restarted, ended, Statement}

module _ {A : Type 0} (bytes_of : A → List ℕ) where
  -- The record of a message.
  abbrev pub origin_seen : MessageOrigin A → Origin
  origin_seen origin = record { port = origin.port; frame = origin.frame; from = bytes_of origin.from }

  -- What a line says.
  abbrev pub said_seen : AuditEvent A → Saying
  said_seen (Due entry) = due (event_seen bytes_of entry)
  said_seen (Late entry since) = late (event_seen bytes_of entry) since
  said_seen (Sent entry after) = sent (event_seen bytes_of entry) after
  said_seen (Dropped entry after) = dropped (event_seen bytes_of entry) after
  said_seen (Lost loss) = lost loss
  said_seen (Full needed) = full needed
  said_seen (Restarted restart) = restarted restart
  said_seen (End totals) = ended totals

  -- A line.
  abbrev pub line_seen : AuditLine A → Statement
  line_seen line =
      record { moment = line.moment; origin = option_map origin_seen line.origin; said = said_seen line.said }

  -- Lines.
  abbrev pub lines_seen : List (AuditLine A) → List Statement
  lines_seen lines = map line_seen lines
