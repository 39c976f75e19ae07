-- The line of an audit as text. Its moment, its port and its machines are as in a trace
-- (`TextLine` of `pim_event_lines`).
use Rattle.std.specs.Prelude.{ℕ, Bool, true, false, List, [], ◌++◌, Option, None, Some, codes, decimal}
use Rattle.pim_addr.specs.declared.family.AddressFamily.{AddressFamily}
use Rattle.pim_down.specs.Hearing.{Event}
use Rattle.pim_events.specs.Events.{epoch_at}
use Rattle.pim_lines.specs.Pieces.{line}
use Rattle.pim_lines.specs.ShortText.{short_text}
use Rattle.pim_time.specs.declared.form.TimeForm.{TimeForm}
use Rattle.pim_event_lines.specs.Files.{files_of}
use Rattle.pim_event_lines.specs.Moments.{moment_text}
use Rattle.pim_event_lines.specs.TextLine.{sender_text, machine_text, restart_line, head_text}
use Rattle.pim_audit_events.specs.declared.line.AuditTotals.{AuditTotals}
use Rattle.pim_audit_events.specs.declared.line.Loss.{Loss}
use Rattle.pim_audit_events.specs.declared.line.Loss.TheVariants.{Restarted, Gone, TimedOut}
use Rattle.pim_audit_events.specs.Lines.{Origin, Saying, due, late, sent, dropped, lost, full, restarted, ended, Statement}

-- What an entry asks for.
abbrev pub asked_word : Bool → List ℕ
asked_word true = codes "join"
asked_word false = codes "prune"

-- The port of a record, if there is one.
abbrev pub port_of : Option Origin → Option ℕ
port_of None = None
port_of (Some origin) = Some origin.port

-- `end: due N late N worst MS open N`.
abbrev pub totals_line : AuditTotals → List ℕ
totals_line totals = line (codes "end: due " ++ decimal totals.due ++ codes " late " ++ decimal totals.late
    ++ codes " worst " ++ decimal totals.worst ++ codes " open " ++ decimal totals.open)

-- `: full N at the upstream neighbour`.
abbrev pub full_line : ℕ → List ℕ
full_line needed = line (codes ": full " ++ decimal needed ++ codes " at the upstream neighbour")

module _ (family : AddressFamily) where
  -- `join` or `prune`, and `star G`, `source S G` or `rpt S G`.
  abbrev pub asked_text : Event → List ℕ
  asked_text entry = asked_word entry.joins ++ codes " " ++ machine_text family entry.group entry.what

  -- `#N A`, or `FILE#N A`, where `files` are the names of the files of the port. Each line that has
  -- it is of a record, so `None` doesn't come.
  abbrev pub origin_text : List (List ℕ) → Option Origin → List ℕ
  origin_text files None = []
  origin_text files (Some origin) = sender_text family files origin.frame origin.from

  -- `late: ENTRY, due since MOMENT`.
  abbrev pub late_line : TimeForm → Option ℕ → Event → ℕ → List ℕ
  late_line form begin entry since = line (codes "late: " ++ asked_text entry ++ codes ", due since "
      ++ moment_text form since (epoch_at begin since))

  -- ` sends ENTRY: N ms after it was due`.
  abbrev pub sends_line : Event → ℕ → List ℕ
  sends_line entry after = line (codes " sends " ++ asked_text entry ++ codes ": " ++ decimal after
      ++ codes " ms after it was due")

  -- `no longer due: ENTRY, after N ms`.
  abbrev pub dropped_line : Event → ℕ → List ℕ
  dropped_line entry after = line (codes "no longer due: " ++ asked_text entry ++ codes ", after "
      ++ decimal after ++ codes " ms")

  -- The upstream neighbour lost what it was asked: by a Hello of this record, or at a time-out.
  abbrev pub lost_line : List (List ℕ) → List ℕ → Option Origin → Loss → List ℕ
  lost_line files upstream origin Restarted =
      origin_text files origin ++ line (codes ": hello restarted; it lost what it was asked")
  lost_line files upstream origin Gone = origin_text files origin ++ line (codes ": hello gone; it lost what it was asked")
  lost_line files upstream origin TimedOut =
      line (codes "neighbour " ++ short_text family upstream ++ codes " timed out; it lost what it was asked")

  -- What a line says. The line of an entry that becomes due is never shown, so it has no text.
  abbrev pub said_text : List (List ℕ) → TimeForm → List ℕ → Option ℕ → Option Origin → Saying → List ℕ
  said_text files form upstream begin origin (due entry) = []
  said_text files form upstream begin origin (late entry since) = late_line form begin entry since
  said_text files form upstream begin origin (sent entry after) = origin_text files origin ++ sends_line entry after
  said_text files form upstream begin origin (dropped entry after) = dropped_line entry after
  said_text files form upstream begin origin (lost loss) = lost_line files upstream origin loss
  said_text files form upstream begin origin (full needed) = origin_text files origin ++ full_line needed
  said_text files form upstream begin origin (restarted restart) = restart_line files restart
  said_text files form upstream begin origin (ended totals) = totals_line totals

-- The line of an audit as text: its moment, its port, and what it says. `files` are the names of the
-- files of each port, `upstream` is the address of the upstream neighbour, and `begin` the time of
-- moment 0.
abbrev pub audit_text : AddressFamily → List (List ℕ) → List (List (List ℕ)) → TimeForm → List ℕ → Option ℕ → Statement → List ℕ
audit_text family names files form upstream begin it =
    head_text names form it.moment (epoch_at begin it.moment) (port_of it.origin)
    ++ said_text family (files_of files (port_of it.origin)) form upstream begin it.origin it.said
