-- What an audit says of its turns, one line for each thing.
use Rattle.std.specs.Prelude.{ℕ, List, Option}
use Rattle.pim_capture.specs.declared.incomplete.RecordPlace.{RecordPlace}
use Rattle.pim_down.specs.Hearing.{Event}
use Rattle.pim_events.specs.declared.event.OwnRestart.{OwnRestart}
use Rattle.pim_audit_events.specs.declared.line.AuditTotals.{AuditTotals}
use Rattle.pim_audit_events.specs.declared.line.Loss.{Loss}

-- The record of a message: its port, its place in the port's capture, and its IP source.
pub record Origin : Type 0 where
  pub port : ℕ
  pub frame : RecordPlace
  pub from : List ℕ

-- What a line says. An entry is due; it is late, since it has been due from a moment on; it was
-- sent, or is no longer due, after some milliseconds. The upstream neighbour lost what it was asked.
-- A message needs more records than the limit. The router itself restarted. The run ended, with what
-- was counted.
pub data Saying : Type 0 where
  due : Event → Saying
  late : Event → ℕ → Saying
  sent : Event → ℕ → Saying
  dropped : Event → ℕ → Saying
  lost : Loss → Saying
  full : ℕ → Saying
  restarted : OwnRestart → Saying
  ended : AuditTotals → Saying

-- A line: its moment, the record that it is about, if one, and what it says.
pub record Statement : Type 0 where
  pub moment : ℕ
  pub origin : Option Origin
  pub said : Saying
