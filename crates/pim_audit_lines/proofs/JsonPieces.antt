-- The pieces in which lines of JSON are written.
use Rattle.std.proofs.Common.{◌≡◌, ℕ, List, [], ◌∷◌, None, Some, codes, decimal, refl, ◌∙◌}
use Rattle.pim_addr.specs.declared.family.AddressFamily.{AddressFamily}
use Rattle.pim_down.specs.Hearing.{Event}
use Rattle.pim_lines.specs.ShortText.{short_text}
use Rattle.pim_event_lines.specs.Files.{file_of, if_several}
use Rattle.pim_event_lines.specs.JsonLine.{kind_word}
use Rattle.pim_audit_events.specs.declared.line.AuditTotals.{AuditTotals}
use Rattle.pim_audit_events.specs.declared.line.Loss.TheVariants.{TimedOut}
use Rattle.pim_audit_events.specs.Lines.{Origin}
use Rattle.pim_audit_lines.specs.AuditText.{asked_word}
use Rattle.pim_audit_lines.specs.AuditJson.{asked_json, named_json, lost_json, needed_json, totals_json}
use Rattle.pim_audit_lines.proofs.Nested.{Text, part, ◌⋄◌, ◌⊕◌, spread, in_parts}

-- A string.
abbrev string_of : List ℕ → Text
string_of text = part (codes "\"") ⋄ text ⋄ codes "\""

-- The kind and the group of a machine.
abbrev machine_of : List ℕ → List ℕ → Text
machine_of kind of = part (codes ",\"what\":\"") ⋄ kind ⋄ codes "\",\"group\":" ⊕ string_of of ⋄ codes ",\"source\":"

abbrev asked_of : List ℕ → List ℕ → List ℕ → Text
asked_of word kind of = part (codes ",\"by\":") ⊕ string_of word ⊕ machine_of kind of

pub asked_members : (family : AddressFamily) (entry : Event) (word kind of : List ℕ) → word ≡ asked_word entry.joins → kind ≡ kind_word entry.what → of ≡ short_text family entry.group
    → spread (asked_of word kind of) [] ≡ asked_json family entry
asked_members family entry word kind of p0 p1 p2 =
    in_parts (asked_of word kind of) ∙ rw (p0, p1, p2) (refl {a = asked_json family entry})

-- A record: its number, and its file in three parts.
abbrev frame_of : List ℕ → List ℕ → List ℕ → List ℕ → Text
frame_of frame front file back = part frame ⊕ (part front ⊕ (part file ⋄ back))

abbrev named_of : List ℕ → Text → List ℕ → Text
named_of name place from = part name ⊕ (part (codes "\",\"frame\":") ⊕ place ⋄ codes ",\"from\":" ⊕ string_of from)

pub named_members : (family : AddressFamily) (files : List (List ℕ)) (name : List ℕ) (origin : Origin) (frame front file back from : List ℕ) → frame ≡ decimal origin.frame.«record»
    → front ≡ if_several files (codes ",\"file\":\"") → file ≡ file_of files origin.frame → back ≡ if_several files (codes "\"") → from ≡ short_text family origin.from
    → spread (named_of name (frame_of frame front file back) from) [] ≡ named_json family files name (Some origin)
named_members family files name origin frame front file back from p0 pf pn pb p1 =
    in_parts (named_of name (frame_of frame front file back) from) ∙ rw (pf, pn, pb, p0, p1) (refl {a = named_json family files name (Some origin)})

abbrev time_out_of : List ℕ → Text
time_out_of neighbour =
    part (codes "upstream\",\"frame\":null,\"from\":") ⊕ string_of neighbour ⋄ codes ",\"verdict\":\"timed-out\"}" ⋄ (10 ∷ [])

pub time_out_members : (family : AddressFamily) (upstream : List ℕ) (neighbour : List ℕ) → neighbour ≡ short_text family upstream
    → spread (time_out_of neighbour) [] ≡ lost_json family [] upstream None TimedOut
time_out_members family upstream neighbour p0 =
    in_parts (time_out_of neighbour) ∙ rw p0 (refl {a = lost_json family [] upstream None TimedOut})

abbrev needed_of : List ℕ → Text
needed_of digits = part (codes ",\"needed\":") ⋄ digits ⋄ codes "}" ⋄ (10 ∷ [])

pub needed_members : (needed : ℕ) (digits : List ℕ) → digits ≡ decimal needed → spread (needed_of digits) [] ≡ needed_json needed
needed_members needed digits p0 = in_parts (needed_of digits) ∙ rw p0 (refl {a = needed_json needed})

abbrev totals_of : List ℕ → List ℕ → List ℕ → List ℕ → Text
totals_of a b c d =
    part (codes "end\",\"due\":") ⋄ a ⋄ codes ",\"late\":" ⋄ b ⋄ codes ",\"worst\":" ⋄ c ⋄ codes ",\"open\":" ⋄ d ⋄ codes "}" ⋄ (10 ∷ [])

pub totals_members : (totals : AuditTotals) (a b c d : List ℕ) → a ≡ decimal totals.due → b ≡ decimal totals.late → c ≡ decimal totals.worst → d ≡ decimal totals.open
    → spread (totals_of a b c d) [] ≡ totals_json totals
totals_members totals a b c d p0 p1 p2 p3 = in_parts (totals_of a b c d) ∙ rw (p0, p1, p2, p3) (refl {a = totals_json totals})
