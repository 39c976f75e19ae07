-- The end of a run: so long after the last record (`--after`), or at a time (`--at`).
use Rattle.std.specs.Prelude.{◌≡◌, ◌&&◌, ◌<◌, ◌^◌, ⊤, Bool, false, List, Option, Some, None, codes, is_some, IfSome}
use Rattle.clap.specs.Words.{Row, Text, first_of}
use Rattle.pim_time.specs.declared.reading.Time.{Time}
use Rattle.pim_time.specs.Text.{IsTime, millis_of}
use Rattle.pim_words.specs.declared.fault.CommandFault.{CommandFault}
use Rattle.pim_words.specs.declared.fault.CommandFault.TheVariants as cause
use Rattle.pim_words.specs.declared.task.CommandKind.{CommandKind}
use Rattle.pim_words.specs.declared.task.CommandKind.TheVariants.{Check, Build}

-- ---- two ends

-- Whether `--after` and `--at` are both given.
abbrev pub are_both_given : List Row → Bool
are_both_given rows = is_some (first_of (codes "after") rows) && is_some (first_of (codes "at") rows)

-- Whether the command was given two ends of its run. A command on one message has no run.
abbrev pub has_two_ends : CommandKind → List Row → Bool
has_two_ends Check rows = false
has_two_ends Build rows = false
has_two_ends command rows = are_both_given rows

-- ---- a time

-- The text of the time at which a run ends, if it is given.
abbrev pub time_text : List Row → Option Text
time_text rows = first_of (codes "at") rows

-- The text names no time.
abbrev pub IsNoTime : Text → Type 0
IsNoTime text = (time : Time) → IsTime text time → ⊥

-- An option that is given names this time; an option that isn't given names none.
abbrev pub IsTimed : Option Text → Option Time → Type 0
IsTimed None None = ⊤
IsTimed (Some text) (Some time) = IsTime text time
IsTimed given read = ⊥

-- The time is within the range of moments, which every time that has a text is.
abbrev pub IsEarly : Option Time → Type 0
IsEarly time = IfSome time (λ time. millis_of time < 10 ^ 15)

-- The option is given and names no time; the fault has its text.
abbrev pub IsUntimed : Option Text → CommandFault → Type 0
IsUntimed (Some text) (cause.Word reported) = (reported.now ≡ text) × IsNoTime text
IsUntimed value fault = ⊥

-- The option names a time, or it isn't given.
abbrev pub IsTimely : Option Text → Type 0
IsTimely value = IfSome value (λ text. (time : Time) × IsTime text time)
