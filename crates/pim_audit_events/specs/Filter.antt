-- Which lines of an audit are shown, and which count in its totals.
use Rattle.std.specs.Prelude.{ℕ, Bool, true, false, not, ◌&&◌, ◌||◌, if◌then◌else◌, List, [], map, Option}
use Rattle.pim_time.specs.declared.reading.Time.{Time}
use Rattle.pim_events.specs.Events.{epoch_at}
use Rattle.pim_events.specs.Filter.{is_early, is_wanted}
use Rattle.pim_audit_events.specs.declared.filter.AuditFilter.{AuditFilter}
use Rattle.pim_audit_events.specs.Lines.{Saying, due, late, sent, dropped, ended, Statement}

-- What a user wants to see: groups, where an empty list means all (`--group`), and from which time
-- on (`--from`).
pub record Selection : Type 0 where
  pub groups : List (List ℕ)
  pub from : Option Time

-- A filter of the code as such a selection.
abbrev pub filter_seen : {A : Type 0} → (A → List ℕ) → AuditFilter A → Selection
filter_seen bytes_of filter = record { groups = map bytes_of filter.groups.now; from = filter.from }

-- The line counts in the totals: it is of no entry, or of an entry of one of these groups.
abbrev pub is_counted : List (List ℕ) → Saying → Bool
is_counted groups (due entry) = is_wanted groups entry.group
is_counted groups (late entry since) = is_wanted groups entry.group
is_counted groups (sent entry after) = is_wanted groups entry.group
is_counted groups (dropped entry after) = is_wanted groups entry.group
is_counted groups other = true

-- A line that is never shown: an entry becomes due.
abbrev pub is_hidden : Saying → Bool
is_hidden (due entry) = true
is_hidden other = false

-- The line of the end of the run.
abbrev pub is_end : Saying → Bool
is_end (ended totals) = true
is_end other = false

-- The line is shown, where moment 0 has the time `begin`. The end of the run always is.
abbrev pub is_shown : Selection → Option ℕ → Statement → Bool
is_shown selection begin line = is_end line.said
    || (not (is_hidden line.said)
    && (not (is_early selection.from line.moment (epoch_at begin line.moment)) && is_counted selection.groups line.said))

-- The text of a line where it is shown, else nothing.
abbrev pub if_shown : Selection → Option ℕ → Statement → List ℕ → List ℕ
if_shown selection begin line text = if is_shown selection begin line then text else []
