-- The lines of what an audit finds.
use Rattle.std.specs.Prelude.{ℕ, ◌-◌, Bool, List, [], ◌∷◌, ◌++◌, Option, None, Some, map, if◌then◌else◌}
use Rattle.pim_down.specs.Hearing.{Event}
use Rattle.pim_events.specs.declared.event.OwnRestart.{OwnRestart}
use Rattle.pim_audit_events.specs.declared.line.Loss.TheVariants as loss
use Rattle.pim_audit_events.specs.Lines.{Origin, Saying, due, late, sent, dropped, lost, full, restarted, Statement}
use Rattle.pim_audit.specs.declared.taking.Effect.{Effect}
use Rattle.pim_audit.specs.declared.taking.Effect.TheVariants.{Heard, Full, Restarted, Gone}
use Rattle.pim_audit.specs.Look.{DueEntry}

-- A line of this moment.
abbrev pub line : ℕ → Option Origin → Saying → Statement
line moment origin said = record { moment = moment; origin = origin; said = said }

-- An entry that ended at a look: a message of this origin sent it, or else it is no longer due.
abbrev pub ended_line : ℕ → Option Origin → DueEntry → Statement
ended_line moment None held = line moment None (dropped held.entry (moment - held.since))
ended_line moment (Some origin) held = line moment (Some origin) (sent held.entry (moment - held.since))

-- An entry that became due.
abbrev pub due_line : ℕ → Event → Statement
due_line moment entry = line moment None (due entry)

-- An entry that became late.
abbrev pub late_line : ℕ → DueEntry → Statement
late_line moment held = line moment None (late held.entry held.since)

-- The lines of a look: what ended, what became due, and what became late. `origin` is that of the
-- message that was heard just before, if one was.
abbrev pub look_lines : ℕ → Option Origin → List DueEntry → List Event → List DueEntry → List Statement
look_lines moment origin ended new lates =
    map (ended_line moment origin) ended ++ (map (due_line moment) new ++ map (late_line moment) lates)

-- The line of an upstream neighbour whose time is over.
abbrev pub gone_lines : ℕ → Bool → List Statement
gone_lines moment gone = if gone then line moment None (lost loss.TimedOut) ∷ [] else []

-- The line of what a message did, but for entries that it sent.
abbrev pub effect_lines : ℕ → Option Origin → Effect → List Statement
effect_lines moment origin (Full needed) = line moment origin (full needed) ∷ []
effect_lines moment origin Restarted = line moment origin (lost loss.Restarted) ∷ []
effect_lines moment origin Gone = line moment origin (lost loss.Gone) ∷ []
effect_lines moment origin _ = []

-- The line of a restart of the router itself.
abbrev pub restart_lines : ℕ → Option Origin → Option OwnRestart → List Statement
restart_lines moment origin None = []
restart_lines moment origin (Some restart) = line moment origin (restarted restart) ∷ []

-- The lines of a message, but for entries that it sent.
abbrev pub message_lines : ℕ → Option Origin → Effect → Option OwnRestart → List Statement
message_lines moment origin effect restart = effect_lines moment origin effect ++ restart_lines moment origin restart

-- The origin of a message that was heard.
abbrev pub origin_if_heard : Option Origin → Effect → Option Origin
origin_if_heard origin Heard = origin
origin_if_heard origin _ = None
