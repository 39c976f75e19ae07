-- What an audit counts.
use Rattle.std.specs.Prelude.{ℕ, ◌-◌, ◌==◌, ◌&&◌, max, if◌then◌else◌, List, [], ◌∷◌}
use Rattle.pim_audit_events.specs.declared.line.AuditTotals.{AuditTotals}
use Rattle.pim_audit_events.specs.Filter.{is_counted}
use Rattle.pim_audit_events.specs.Lines.{Saying, due, late, sent, dropped, Statement}
use Rattle.pim_events.specs.Filter.{is_wanted}
use Rattle.pim_trace.specs.Ledger.{one_more}
use Rattle.pim_audit.specs.Look.{DueEntry}

-- Nothing is counted yet.
abbrev pub nothing_counted : AuditTotals
nothing_counted = record { due = 0; late = 0; worst = 0; «open» = 0 }

-- The totals after a line: one more entry that is due or late, or the time for which an entry was
-- due.
abbrev pub with_line : Saying → AuditTotals → AuditTotals
with_line (due entry) totals = record (totals) { due = one_more totals.due }
with_line (late entry since) totals = record (totals) { late = one_more totals.late }
with_line (sent entry after) totals = record (totals) { worst = max totals.worst after }
with_line (dropped entry after) totals = record (totals) { worst = max totals.worst after }
with_line other totals = totals

-- The same of an entry of one of these groups, or of any group if there are none.
abbrev pub with_line_of : List (List ℕ) → Statement → AuditTotals → AuditTotals
with_line_of groups line totals = if is_counted groups line.said then with_line line.said totals else totals

-- The totals after each of these, one after the other.
unfoldable pub with_each : {X : Type 0} → (X → AuditTotals → AuditTotals) → List X → AuditTotals → AuditTotals
with_each with_one [] totals = totals
with_each with_one (first ∷ others) totals = with_each with_one others (with_one first totals)

-- The totals after these lines.
abbrev pub with_lines : List (List ℕ) → List Statement → AuditTotals → AuditTotals
with_lines groups = with_each (with_line_of groups)

-- An entry is open at the end: it was reported as late, is still due, and is of one of these groups.
abbrev pub with_open : List (List ℕ) → ℕ → DueEntry → AuditTotals → AuditTotals
with_open groups moment held totals = if held.is_reported && is_wanted groups held.entry.group
    then record (totals) { «open» = one_more totals.«open»; worst = max totals.worst (moment - held.since) } else totals

-- The totals at the end, at this moment, where these entries are due.
abbrev pub with_all_open : List (List ℕ) → ℕ → List DueEntry → AuditTotals → AuditTotals
with_all_open groups moment = with_each (with_open groups moment)

-- The status of a program: 1 if something was late.
abbrev pub status_of : AuditTotals → ℕ
status_of totals = if totals.late == 0 then 0 else 1
