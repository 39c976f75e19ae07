-- What a command asks for, as its definition says it. These definitions serve private functions
-- only.
use Rattle.std.specs.Prelude.{⊤, List, ℕ, Option, None, Some}
use Rattle.pim_addr.specs.declared.family.AddressFamily.{AddressFamily}
use Rattle.pim_files.specs.Opening.{port_files}
use Rattle.pim_local.specs.Joins.{Join}
use Rattle.pim_words.specs.declared.task.Captures.{Captures}
use Rattle.pim_words.specs.Plan.{AreNames, IsWritable}
use Rattle.pim_commands.specs.declared.one_router.OneRouter.{OneRouter}
use Rattle.pim_commands.specs.declared.one_router.OneRouter.TheVariants.{Report, Trace, Audit, Mirror, Emit}
use Rattle.pim_commands.specs.declared.one_router.Made.{Made}
use Rattle.pim_commands.specs.declared.one_router.Made.TheVariants as made
use Rattle.pim_commands.specs.Engines.{Engine, a_report, a_trace, an_audit, a_mirror, an_emission}
use Rattle.pim_commands.specs.Auditing.{audit_line_of, audit_of}
use Rattle.pim_commands.specs.Routers.{writing_of}
use Rattle.pim_commands.specs.Shown.{files_shown}
use Rattle.pim_commands.specs.Tracing.{line_of, names_of}

-- What a command for one router asks of its engine, with these captures and local joins.
abbrev pub engine_of : {A : Type 0} → AddressFamily → (A → List ℕ) → Captures A → OneRouter A → List Join → Engine
engine_of family bytes_of captures Report local = a_report
engine_of family bytes_of captures (Trace tracing) local = a_trace tracing.now.state
    (line_of family bytes_of (names_of 0 tracing.now.names.items) (files_shown tracing.now.json (port_files captures)) tracing.now)
engine_of family bytes_of captures (Audit words) local = an_audit
    (audit_line_of family bytes_of (names_of 0 words.tracing.now.names.items)
    (files_shown words.tracing.now.json (port_files captures)) words.auditing.now.upstream words.tracing.now)
    (audit_of bytes_of words.auditing.now words.tracing.now local)
engine_of family bytes_of captures (Mirror writing) local = a_mirror (writing_of bytes_of writing.now)
engine_of family bytes_of captures (Emit writing) local = an_emission (writing_of bytes_of writing.now)

-- The upstream neighbour that it names.
abbrev pub upstream_of : {A : Type 0} → OneRouter A → Option A
upstream_of (Audit words) = Some words.auditing.now.upstream
upstream_of (Mirror writing) = Some writing.now.upstream
upstream_of (Emit writing) = Some writing.now.upstream
upstream_of command = None

-- Its words are in their ranges.
abbrev pub Fits : {A : Type 0} → Captures A → OneRouter A → Type 0
Fits captures Report = ⊤
Fits captures (Trace tracing) = AreNames captures tracing.now
Fits captures (Audit words) = AreNames captures words.tracing.now
Fits captures (Mirror writing) = IsWritable writing.now
Fits captures (Emit writing) = IsWritable writing.now

-- The engine with what was made of the words.
abbrev pub engine_seen : {F A N : Type 0} → AddressFamily → (A → List ℕ) → Made F A N → Engine
engine_seen family bytes_of made.Report = a_report
engine_seen family bytes_of (made.Trace names tracing) =
    a_trace tracing.now.state (line_of family bytes_of names.now.ports.items names.now.files.items tracing.now)
engine_seen family bytes_of (made.Audit names words local) =
    an_audit (audit_line_of family bytes_of names.now.ports.items names.now.files.items words.auditing.now.upstream
    words.tracing.now)
    (audit_of bytes_of words.auditing.now words.tracing.now local.now)
engine_seen family bytes_of (made.Mirror by) = a_mirror by.now
engine_seen family bytes_of (made.Emit by) = an_emission by.now
