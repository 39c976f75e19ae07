-- The pieces in which lines of text are written.
use Rattle.std.proofs.Common.{◌≡◌, ℕ, List, [], ◌∷◌, ◌++◌, Option, None, Some, codes, decimal, refl, ◌∙◌}
use Rattle.pim_addr.specs.declared.family.AddressFamily.{AddressFamily}
use Rattle.pim_down.specs.Hearing.{Event}
use Rattle.pim_events.specs.Events.{epoch_at}
use Rattle.pim_lines.specs.ShortText.{short_text}
use Rattle.pim_report.specs.EchoLine.{kind_of}
use Rattle.pim_time.specs.declared.form.TimeForm.{TimeForm}
use Rattle.pim_event_lines.specs.Files.{file_of}
use Rattle.pim_event_lines.specs.Moments.{moment_text}
use Rattle.pim_event_lines.specs.TextLine.{source_words}
use Rattle.pim_audit_events.specs.declared.line.AuditTotals.{AuditTotals}
use Rattle.pim_audit_events.specs.declared.line.Loss.TheVariants.{TimedOut}
use Rattle.pim_audit_events.specs.Lines.{Origin}
use Rattle.pim_audit_lines.specs.AuditText.{asked_word, origin_text, late_line, sends_line, dropped_line, lost_line, full_line, totals_line}
use Rattle.pim_audit_lines.proofs.Nested.{Text, part, ◌⋄◌, ◌⊕◌, spread, in_parts}

-- `#N A`, after the name of its file
abbrev origin_of : List ℕ → List ℕ → List ℕ → Text
origin_of file frame from = part file ⋄ codes "#" ⋄ frame ⋄ codes " " ⋄ from

pub origin_pieces : (family : AddressFamily) (files : List (List ℕ)) (origin : Origin) (file frame from : List ℕ) → file ≡ file_of files origin.frame → frame ≡ decimal origin.frame.«record» → from ≡ short_text family origin.from
    → spread (origin_of file frame from) [] ≡ origin_text family files (Some origin)
origin_pieces family files origin file frame from pf p0 p1 =
    in_parts (origin_of file frame from) ∙ rw (pf, p0, p1) (refl {a = origin_text family files (Some origin)})

-- ---- entries

-- `join star G` and the like, with the space after S as a part of its own
abbrev asked_of : List ℕ → List ℕ → List ℕ → List ℕ → List ℕ → Text
asked_of word kind source gap of = part word ⋄ codes " " ⊕ (part kind ⊕ (part source ⋄ gap) ⋄ of)

abbrev late_of : Text → List ℕ → Text
late_of asked since = part (codes "late: ") ⊕ asked ⋄ codes ", due since " ⋄ since ⋄ (10 ∷ [])

pub late_pieces : (family : AddressFamily) (form : TimeForm) (begin : Option ℕ) (entry : Event) (moment : ℕ) (word kind source gap of since : List ℕ) → word ≡ asked_word entry.joins → kind ≡ kind_of entry.what
    → source ++ gap ≡ source_words family entry.what → of ≡ short_text family entry.group → since ≡ moment_text form moment (epoch_at begin moment)
    → spread (late_of (asked_of word kind source gap of) since) [] ≡ late_line family form begin entry moment
late_pieces family form begin entry moment word kind source gap of since p0 p1 p2 p3 p4 =
    in_parts (late_of (asked_of word kind source gap of) since)
    ∙ rw (p2, p0, p1, p3, p4) (refl {a = late_line family form begin entry moment})

abbrev sends_of : Text → List ℕ → Text
sends_of asked after = part (codes " sends ") ⊕ asked ⋄ codes ": " ⋄ after ⋄ codes " ms after it was due" ⋄ (10 ∷ [])

pub sends_pieces : (family : AddressFamily) (entry : Event) (number : ℕ) (word kind source gap of after : List ℕ) → word ≡ asked_word entry.joins → kind ≡ kind_of entry.what
    → source ++ gap ≡ source_words family entry.what → of ≡ short_text family entry.group → after ≡ decimal number
    → spread (sends_of (asked_of word kind source gap of) after) [] ≡ sends_line family entry number
sends_pieces family entry number word kind source gap of after p0 p1 p2 p3 p4 =
    in_parts (sends_of (asked_of word kind source gap of) after)
    ∙ rw (p2, p0, p1, p3, p4) (refl {a = sends_line family entry number})

abbrev dropped_of : Text → List ℕ → Text
dropped_of asked after = part (codes "no longer due: ") ⊕ asked ⋄ codes ", after " ⋄ after ⋄ codes " ms" ⋄ (10 ∷ [])

pub dropped_pieces : (family : AddressFamily) (entry : Event) (number : ℕ) (word kind source gap of after : List ℕ) → word ≡ asked_word entry.joins → kind ≡ kind_of entry.what
    → source ++ gap ≡ source_words family entry.what → of ≡ short_text family entry.group → after ≡ decimal number
    → spread (dropped_of (asked_of word kind source gap of) after) [] ≡ dropped_line family entry number
dropped_pieces family entry number word kind source gap of after p0 p1 p2 p3 p4 =
    in_parts (dropped_of (asked_of word kind source gap of) after)
    ∙ rw (p2, p0, p1, p3, p4) (refl {a = dropped_line family entry number})

-- ---- the neighbour and the end

abbrev time_out_of : List ℕ → Text
time_out_of neighbour = part (codes "neighbour ") ⋄ neighbour ⋄ codes " timed out; it lost what it was asked" ⋄ (10 ∷ [])

pub time_out_pieces : (family : AddressFamily) (upstream : List ℕ) (neighbour : List ℕ) → neighbour ≡ short_text family upstream
    → spread (time_out_of neighbour) [] ≡ lost_line family [] upstream None TimedOut
time_out_pieces family upstream neighbour p0 =
    in_parts (time_out_of neighbour) ∙ rw p0 (refl {a = lost_line family [] upstream None TimedOut})

abbrev full_of : List ℕ → Text
full_of digits = part (codes ": full ") ⋄ digits ⋄ codes " at the upstream neighbour" ⋄ (10 ∷ [])

pub full_pieces : (needed : ℕ) (digits : List ℕ) → digits ≡ decimal needed → spread (full_of digits) [] ≡ full_line needed
full_pieces needed digits p0 = in_parts (full_of digits) ∙ rw p0 (refl {a = full_line needed})

abbrev totals_of : List ℕ → List ℕ → List ℕ → List ℕ → Text
totals_of a b c d =
    part (codes "end: due ") ⋄ a ⋄ codes " late " ⋄ b ⋄ codes " worst " ⋄ c ⋄ codes " open " ⋄ d ⋄ (10 ∷ [])

pub totals_pieces : (totals : AuditTotals) (a b c d : List ℕ) → a ≡ decimal totals.due → b ≡ decimal totals.late → c ≡ decimal totals.worst → d ≡ decimal totals.open
    → spread (totals_of a b c d) [] ≡ totals_line totals
totals_pieces totals a b c d p0 p1 p2 p3 = in_parts (totals_of a b c d) ∙ rw (p0, p1, p2, p3) (refl {a = totals_line totals})
