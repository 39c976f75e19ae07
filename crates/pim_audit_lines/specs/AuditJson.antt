-- The line of an audit as JSON (RFC 8259): one object, without spaces. No text in it needs an
-- escape: each is a word, an address, a decimal, the name of a port, or the name of a file, which
-- has its escapes. Its leading members and its machines are as in a trace (`JsonLine` of
-- `pim_event_lines`).
use Rattle.std.specs.Prelude.{ℕ, List, [], ◌++◌, Option, None, Some, codes, decimal}
use Rattle.pim_addr.specs.declared.family.AddressFamily.{AddressFamily}
use Rattle.pim_down.specs.Hearing.{Event}
use Rattle.pim_events.specs.Events.{epoch_at}
use Rattle.pim_lines.specs.Pieces.{line}
use Rattle.pim_lines.specs.ShortText.{short_text}
use Rattle.pim_event_lines.specs.Files.{files_of}
use Rattle.pim_event_lines.specs.JsonLine.{quoted, sender_json, machine_json, source_json, restart_json, time_json, place_json}
use Rattle.pim_audit_events.specs.declared.line.AuditTotals.{AuditTotals}
use Rattle.pim_audit_events.specs.declared.line.Loss.{Loss}
use Rattle.pim_audit_events.specs.declared.line.Loss.TheVariants.{Restarted, Gone, TimedOut}
use Rattle.pim_audit_events.specs.Lines.{Origin, Saying, due, late, sent, dropped, lost, full, restarted, ended, Statement}
use Rattle.pim_audit_lines.specs.AuditText.{asked_word, port_of}

-- ---- what follows the first quote of the name of the event

-- `end`.
abbrev pub totals_json : AuditTotals → List ℕ
totals_json totals = line (codes "end\",\"due\":" ++ decimal totals.due ++ codes ",\"late\":" ++ decimal totals.late
    ++ codes ",\"worst\":" ++ decimal totals.worst ++ codes ",\"open\":" ++ decimal totals.open ++ codes "}")

-- The number of records that are needed, at the end of the object.
abbrev pub needed_json : ℕ → List ℕ
needed_json needed = line (codes ",\"needed\":" ++ decimal needed ++ codes "}")

module _ (family : AddressFamily) where
  -- What an entry asks for, up to its source.
  abbrev pub asked_json : Event → List ℕ
  asked_json entry = codes ",\"by\":" ++ quoted (asked_word entry.joins) ++ machine_json family entry.group entry.what

  -- An entry, at the end of the object.
  abbrev pub entry_json : Event → List ℕ
  entry_json entry = asked_json entry ++ (source_json family entry.what ++ line (codes "}"))

  -- The frame and the sender of a record. Each line that has them is of a record, so `None` doesn't
  -- come.
  abbrev pub origin_json : List (List ℕ) → Option Origin → List ℕ
  origin_json files None = codes "\",\"frame\":null,\"from\":null"
  origin_json files (Some origin) = sender_json family files origin.frame origin.from

  -- The name of an event, and its record.
  abbrev pub named_json : List (List ℕ) → List ℕ → Option Origin → List ℕ
  named_json files name origin = name ++ origin_json files origin

  -- `late`.
  abbrev pub late_json : Event → ℕ → List ℕ
  late_json entry since = (codes "late\",\"since\":" ++ decimal since) ++ entry_json entry

  -- `sent`.
  abbrev pub sent_json : List (List ℕ) → Option Origin → Event → ℕ → List ℕ
  sent_json files origin entry after =
      named_json files (codes "sent") origin ++ ((codes ",\"after\":" ++ decimal after) ++ entry_json entry)

  -- `dropped`.
  abbrev pub dropped_json : Event → ℕ → List ℕ
  dropped_json entry after = (codes "dropped\",\"after\":" ++ decimal after) ++ entry_json entry

  -- `upstream`: the neighbour lost what it was asked, by a Hello of this record or at a time-out.
  abbrev pub lost_json : List (List ℕ) → List ℕ → Option Origin → Loss → List ℕ
  lost_json files upstream origin Restarted =
      named_json files (codes "upstream") origin ++ line (codes ",\"verdict\":\"restarted\"}")
  lost_json files upstream origin Gone = named_json files (codes "upstream") origin ++ line (codes ",\"verdict\":\"gone\"}")
  lost_json files upstream origin TimedOut = line (codes "upstream\",\"frame\":null,\"from\":"
      ++ quoted (short_text family upstream) ++ codes ",\"verdict\":\"timed-out\"}")

  -- What a line says. The line of an entry that becomes due is never shown, so it has no text.
  abbrev pub said_json : List (List ℕ) → List ℕ → Option Origin → Saying → List ℕ
  said_json files upstream origin (due entry) = []
  said_json files upstream origin (late entry since) = late_json entry since
  said_json files upstream origin (sent entry after) = sent_json files origin entry after
  said_json files upstream origin (dropped entry after) = dropped_json entry after
  said_json files upstream origin (lost loss) = lost_json files upstream origin loss
  said_json files upstream origin (full needed) = named_json files (codes "full") origin ++ needed_json needed
  said_json files upstream origin (restarted restart) = restart_json files restart
  said_json files upstream origin (ended totals) = totals_json totals

-- ---- whole lines

-- The line of an audit as JSON. `files` are the names of the files of each port as they stand in JSON
-- strings, `upstream` is the address of the upstream neighbour, and `begin` the time of moment 0.
abbrev pub audit_json : AddressFamily → List (List ℕ) → List (List (List ℕ)) → List ℕ → Option ℕ → Statement → List ℕ
audit_json family names files upstream begin it =
    (time_json it.moment (epoch_at begin it.moment) ++ place_json names (port_of it.origin))
    ++ said_json family (files_of files (port_of it.origin)) upstream it.origin it.said
