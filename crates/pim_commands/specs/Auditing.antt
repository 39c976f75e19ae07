-- What an audit prints of each line, as its words ask.
use Rattle.std.specs.Prelude.{ℕ, if◌then◌else◌, List, map, Option}
use Rattle.pim_addr.specs.declared.family.AddressFamily.{AddressFamily}
use Rattle.pim_audit_events.specs.Filter.{Selection, if_shown}
use Rattle.pim_audit_events.specs.Lines.{Statement}
use Rattle.pim_audit_lines.specs.AuditJson.{audit_json}
use Rattle.pim_audit_lines.specs.AuditText.{audit_text}
use Rattle.pim_local.specs.Joins.{Join}
use Rattle.pim_words.specs.declared.task.Auditing.{Auditing}
use Rattle.pim_words.specs.declared.task.Tracing.{Tracing}

-- What an audit asks: which groups count, of whom the router asks, when an entry is late, and what
-- local receivers have joined.
pub record AuditAsked : Type 0 where
  pub groups : List (List ℕ)
  pub upstream : List ℕ
  pub grace : ℕ
  pub local : List Join

-- What the words ask, with these local joins.
abbrev pub audit_of : {A : Type 0} → (A → List ℕ) → Auditing A → Tracing A → List Join → AuditAsked
audit_of bytes_of auditing tracing local = record {
  groups = map bytes_of tracing.groups.items;
  upstream = bytes_of auditing.upstream;
  grace = auditing.grace_ms;
  local = local;
}

-- Which lines the words ask for.
abbrev pub audit_selection : {A : Type 0} → (A → List ℕ) → Tracing A → Selection
audit_selection bytes_of tracing = record { groups = map bytes_of tracing.groups.items; from = tracing.from }

-- What is printed of a line: its text or its JSON, or nothing where it isn't shown. `names` are those
-- of the ports, `files` those of their files, and `begin` is the time of moment 0, if it has one.
abbrev pub audit_line_of : {A : Type 0} → AddressFamily → (A → List ℕ) → List (List ℕ) → List (List (List ℕ)) → A → Tracing A →
    Option ℕ → Statement → List ℕ
audit_line_of family bytes_of names files upstream tracing begin line = if_shown (audit_selection bytes_of tracing) begin line
    (if tracing.json then audit_json family names files (bytes_of upstream) begin line
    else audit_text family names files tracing.form (bytes_of upstream) begin line)
