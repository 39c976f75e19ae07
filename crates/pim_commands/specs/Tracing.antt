-- What a trace prints of each event, and whether it has the state at the end, as its words ask.
use Rattle.std.specs.Prelude.{ℕ, suc, Bool, true, false, if◌then◌else◌, List, [], ◌∷◌, map, decimal}
use Rattle.std.specs.Prelude.{Option, None, Some, Result}
use Rattle.std.specs.Borrow.{Bor}
use Rattle.pim_addr.specs.declared.family.AddressFamily.{AddressFamily}
use Rattle.pim_events.specs.Events.{Occurrence}
use Rattle.pim_events.specs.Filter.{Selection, if_shown}
use Rattle.pim_event_lines.specs.JsonLine.{json_line}
use Rattle.pim_event_lines.specs.TextLine.{text_line}
use Rattle.pim_merge.specs.declared.end.End.{End}
use Rattle.pim_merge.specs.Next.{MergeState}
use Rattle.pim_router.specs.State.{RouterState}
use Rattle.pim_run.specs.declared.fault.RunFault.{RunFault}
use Rattle.pim_trace.specs.StateTrace.{TracesState}
use Rattle.pim_trace.specs.Trace.{Traces}
use Rattle.pim_words.specs.declared.task.Tracing.{Tracing}

-- ---- what is printed of an event

-- The name of a port: the one that its word gives, or else its number.
abbrev pub name_of : ℕ → Option (Bor (List ℕ)) → List ℕ
name_of port None = decimal port
name_of port (Some text) = text.now

-- The names of the ports from this number on.
abbrev pub names_of : ℕ → List (Option (Bor (List ℕ))) → List (List ℕ)
names_of port [] = []
names_of port (given ∷ others) = name_of port given ∷ names_of (suc port) others

-- Which events the words ask for.
abbrev pub selection_of : {A : Type 0} → (A → List ℕ) → Tracing A → Selection
selection_of bytes_of tracing = record {
  all = tracing.all;
  groups = map bytes_of tracing.groups.items;
  sources = map bytes_of tracing.sources.items;
  from = tracing.from;
}

-- What is printed of an event: its line as JSON or as text, or nothing where it isn't shown. `names`
-- are those of the ports, and `files` those of their files.
abbrev pub line_of : {A : Type 0} → AddressFamily → (A → List ℕ) → List (List ℕ) → List (List (List ℕ)) → Tracing A →
    Occurrence → List ℕ
line_of family bytes_of names files tracing event = if_shown (selection_of bytes_of tracing) event
    (if tracing.json then json_line family names files event else text_line family names files tracing.form event)

-- ---- the state at the end

-- What a trace returns and writes: with the state at the end if the words ask for it, otherwise
-- without.
abbrev pub TracesAsAsked : {A : Type 0} → Bool → (Occurrence → List ℕ) → AddressFamily → End → MergeState → MergeState →
    RouterState → RouterState → Option (List ℕ) → Option (List ℕ) → Result A RunFault → Type 0
TracesAsAsked true line family end merge merge' state after old new result =
    TracesState line family end merge merge' state after old new result
TracesAsAsked false line family end merge merge' state after old new result =
    Traces line family end merge merge' state after old new result
