-- The pieces in which lines of text are written.
use Rattle.pim_event_lines.proofs.Cited.{◌≡◌, ℕ, ◌-◌, List, [], ◌∷◌, ◌++◌, Option, Some, codes, decimal, refl, ◌∙◌, AddressFamily}
use Rattle.pim_event_lines.proofs.Cited.{line, state_in, short_text, Fired, Ignored, OwnRestart, SkipCounts, TimeOut}
use Rattle.pim_event_lines.proofs.Cited.{TransitionEvent, generation_text, generation_part, restarted_part}
use Rattle.pim_event_lines.proofs.Cited.{counts_text, held_text, overrides_part, by_words, timer_words, cause_words, echo_text}
use Rattle.pim_event_lines.proofs.Cited.{source_words, state_text, sender_text, entry_text, time_out_line}
use Rattle.pim_event_lines.proofs.Cited.{effect_text, cause_line}
use Rattle.pim_event_lines.proofs.Cited.{Cause, HeldMachine, WantedEntry, state_name}
use Rattle.pim_down.specs.declared.machines.step.Timer.{Timer}
use Rattle.pim_lines.specs.Pieces.{number_or}
use Rattle.pim_capture.specs.declared.incomplete.RecordPlace.{RecordPlace}
use Rattle.pim_event_lines.specs.Files.{file_of, frame_text}
use Rattle.pim_event_lines.specs.TextLine.{change_words, restart_words, record_text, address_part, tree_of, exception_in, want_line}
use Rattle.pim_report.specs.EchoLine.{kind_of}
use Rattle.pim_event_lines.proofs.Nested.{Text, part, ◌⋄◌, ◌⊕◌, spread, in_parts}

-- ---- packets

-- `#N`, after the name of its file
abbrev place_of : List ℕ → List ℕ → Text
place_of file frame = part file ⋄ codes "#" ⋄ frame

-- the same, and the sender
abbrev sender_of : List ℕ → List ℕ → List ℕ → Text
sender_of file frame from = place_of file frame ⋄ codes " " ⋄ from

abbrev shown_of : List ℕ → List ℕ → List ℕ → Text
shown_of file frame from = sender_of file frame from ⋄ codes ": "

pub sender_pieces : (family : AddressFamily) (files : List (List ℕ)) (frame : RecordPlace) (from : List ℕ) (file digits shown : List ℕ) → file ≡ file_of files frame → digits ≡ decimal frame.«record» → shown ≡ short_text family from
    → spread (shown_of file digits shown) [] ≡ sender_text family files frame from ++ codes ": "
sender_pieces family files frame from file digits shown pf p0 p1 =
    in_parts (shown_of file digits shown) ∙ rw (pf, p0, p1) (refl {a = sender_text family files frame from ++ codes ": "})

abbrev generation_of : List ℕ → Text
generation_of shown = part (codes ", generation ") ⋄ shown ⋄ (10 ∷ [])

pub generation_pieces : (number : Option ℕ) (shown : List ℕ) → shown ≡ generation_text number
    → spread (generation_of shown) [] ≡ line (generation_part number)
generation_pieces number shown p0 = in_parts (generation_of shown) ∙ rw p0 (refl {a = line (generation_part number)})

abbrev restarted_of : List ℕ → List ℕ → Text
restarted_of was generation =
    part (codes ", generation ") ⋄ was ⋄ codes " -> " ⋄ generation ⋄ codes "; its joins stay until they expire" ⋄ (10 ∷ [])

pub restarted_pieces : (before after : Option ℕ) (was generation : List ℕ) → was ≡ generation_text before → generation ≡ generation_text after
    → spread (restarted_of was generation) [] ≡ line (restarted_part before after)
restarted_pieces before after was generation p0 p1 =
    in_parts (restarted_of was generation) ∙ rw (p0, p1) (refl {a = line (restarted_part before after)})

abbrev entry_of : List ℕ → List ℕ → List ℕ → List ℕ → List ℕ → Text
entry_of file frame from of names =
    sender_of file frame from ⋄ codes " joins star " ⋄ of ⋄ codes ": ignored, it names RP " ⋄ names ⋄ codes ", and "

pub entry_pieces : (family : AddressFamily) (files : List (List ℕ)) (entry : Ignored (List ℕ)) (file frame from of names : List ℕ) → file ≡ file_of files entry.frame → frame ≡ decimal entry.frame.«record» → from ≡ short_text family entry.from → of ≡ short_text family entry.group → names ≡ short_text family entry.names
    → spread (entry_of file frame from of names) [] ≡ entry_text family files entry
entry_pieces family files entry file frame from of names pf p0 p1 p2 p3 =
    in_parts (entry_of file frame from of names) ∙ rw (pf, p0, p1, p2, p3) (refl {a = entry_text family files entry})

pub frame_pieces : (files : List (List ℕ)) (frame : RecordPlace) (file digits : List ℕ) → file ≡ file_of files frame → digits ≡ decimal frame.«record»
    → spread (place_of file digits) [] ≡ frame_text files frame
frame_pieces files frame file digits pf p0 = in_parts (place_of file digits) ∙ rw (pf, p0) (refl {a = frame_text files frame})

abbrev restart_of : List ℕ → List ℕ → Text
restart_of was generation =
    part (codes " own Hello, generation ") ⋄ was ⋄ codes " -> " ⋄ generation
    ⋄ codes ": this router restarted; it lost what it held, the replay keeps it" ⋄ (10 ∷ [])

pub restart_pieces : (restart : OwnRestart) (was generation : List ℕ) → was ≡ generation_text restart.was → generation ≡ generation_text restart.generation
    → spread (restart_of was generation) [] ≡ line (restart_words restart)
restart_pieces restart was generation p0 p1 =
    in_parts (restart_of was generation) ∙ rw (p0, p1) (refl {a = line (restart_words restart)})

-- ---- machines, neighbours and the end

abbrev overrides_of : List ℕ → List ℕ → Text
overrides_of file digits = part (codes ", overrides ") ⊕ place_of file digits ⋄ (10 ∷ [])

pub overrides_pieces : (files : List (List ℕ)) (frame : RecordPlace) (file digits : List ℕ) → file ≡ file_of files frame → digits ≡ decimal frame.«record»
    → spread (overrides_of file digits) [] ≡ line (overrides_part files (Some frame))
overrides_pieces files frame file digits pf p0 =
    in_parts (overrides_of file digits) ∙ rw (pf, p0) (refl {a = line (overrides_part files (Some frame))})

-- `STATE -> STATE`
abbrev states_of : List ℕ → List ℕ → Text
states_of was new = part was ⋄ codes " -> " ⋄ new

-- `star G`, `source S G` or `rpt S G`, with the space after S as a part of its own
abbrev machine_of : List ℕ → List ℕ → List ℕ → List ℕ → Text
machine_of kind source gap of = part kind ⊕ (part source ⋄ gap) ⋄ of

pub one_sender_pieces : (family : AddressFamily) (files : List (List ℕ)) (frame : RecordPlace) (from : List ℕ) (file digits shown : List ℕ) → file ≡ file_of files frame → digits ≡ decimal frame.«record» → shown ≡ short_text family from
    → spread (sender_of file digits shown) [] ≡ sender_text family files frame from
one_sender_pieces family files frame from file digits shown pf p0 p1 =
    in_parts (sender_of file digits shown) ∙ rw (pf, p0, p1) (refl {a = sender_text family files frame from})

abbrev change_of : List ℕ → Text → Text → Text
change_of word machine states = part word ⊕ machine ⋄ codes ": " ⊕ states

pub change_pieces : (family : AddressFamily) (change : TransitionEvent (List ℕ)) (word kind source gap of was new : List ℕ) → word ≡ by_words change.by
    → kind ≡ kind_of change.what → source ++ gap ≡ source_words family change.what → of ≡ short_text family change.group → was ≡ state_text change.before → new ≡ state_text (state_in change.after)
    → spread (change_of word (machine_of kind source gap of) (states_of was new)) [] ≡ change_words family change
change_pieces family change word kind source gap of was new p2 p3 p4 p5 p6 p7 =
    in_parts (change_of word (machine_of kind source gap of) (states_of was new))
    ∙ rw (p4, p2, p3, p5, p6, p7) (refl {a = change_words family change})

abbrev effect_of : List ℕ → Text → Text → List ℕ → Text
effect_of word machine states echo = part word ⊕ machine ⋄ codes ": " ⊕ states ⋄ echo

pub effect_pieces : (family : AddressFamily) (firing : Fired (List ℕ)) (word kind source gap of was new echo : List ℕ) → word ≡ timer_words firing.timer → kind ≡ kind_of firing.what
    → source ++ gap ≡ source_words family firing.what → of ≡ short_text family firing.group → was ≡ state_text (Some firing.before) → new ≡ state_text firing.after → echo ≡ echo_text firing.timer firing.echo
    → spread (effect_of word (machine_of kind source gap of) (states_of was new) echo) [] ≡ effect_text family firing
effect_pieces family firing word kind source gap of was new echo p0 p1 p2 p3 p4 p5 p6 =
    in_parts (effect_of word (machine_of kind source gap of) (states_of was new) echo)
    ∙ rw (p2, p0, p1, p3, p4, p5, p6) (refl {a = effect_text family firing})

abbrev cause_of : List ℕ → List ℕ → List ℕ → List ℕ → List ℕ → Text
cause_of word from file frame before =
    part word ⋄ from ⋄ codes " in " ⊕ place_of file frame ⋄ codes ", " ⋄ before ⋄ codes " ms before" ⋄ (10 ∷ [])

pub cause_pieces : (family : AddressFamily) (ms : ℕ) (timer : Timer) (files : List (List ℕ)) (cause : Cause (List ℕ)) (word from file frame before : List ℕ) → word ≡ cause_words timer → from ≡ short_text family cause.from → file ≡ file_of files cause.frame → frame ≡ decimal cause.frame.«record» → before ≡ decimal (ms - cause.ms)
    → spread (cause_of word from file frame before) [] ≡ cause_line family files ms timer cause
cause_pieces family ms timer files cause word from file frame before p0 p1 pf p2 p3 =
    in_parts (cause_of word from file frame before) ∙ rw (p0, p1, pf, p2, p3) (refl {a = cause_line family files ms timer cause})

abbrev time_out_of : List ℕ → List ℕ → List ℕ → List ℕ → Text
time_out_of neighbour file frame before =
    part (codes "neighbour ") ⋄ neighbour ⋄ codes " timed out; Hello " ⊕ place_of file frame ⋄ codes ", " ⋄ before
    ⋄ codes " ms before; its joins stay until they expire" ⋄ (10 ∷ [])

pub time_out_pieces : (family : AddressFamily) (ms : ℕ) (files : List (List ℕ)) (over : TimeOut (List ℕ)) (neighbour file frame before : List ℕ) → neighbour ≡ short_text family over.neighbour → file ≡ file_of files over.frame → frame ≡ decimal over.frame.«record» → before ≡ decimal (ms - over.ms)
    → spread (time_out_of neighbour file frame before) [] ≡ time_out_line family files ms over
time_out_pieces family ms files over neighbour file frame before p0 pf p1 p2 =
    in_parts (time_out_of neighbour file frame before) ∙ rw (p0, pf, p1, p2) (refl {a = time_out_line family files ms over})

abbrev held_of : List ℕ → List ℕ → Text
held_of a b = part (codes "end: records ") ⋄ a ⋄ codes " neighbours " ⋄ b

pub held_pieces : (records neighbours : ℕ) (a b : List ℕ) → a ≡ decimal records → b ≡ decimal neighbours
    → spread (held_of a b) [] ≡ held_text records neighbours
held_pieces records neighbours a b p0 p1 = in_parts (held_of a b) ∙ rw (p0, p1) (refl {a = held_text records neighbours})

abbrev counts_of : List ℕ → List ℕ → List ℕ → List ℕ → List ℕ → List ℕ → Text
counts_of a b c d e f =
    part (codes " skipped cut ") ⋄ a ⋄ codes " not-ip " ⋄ b ⋄ codes " bad-header " ⋄ c ⋄ codes " not-pim " ⋄ d
    ⋄ codes " fragment " ⋄ e ⋄ codes " family " ⋄ f ⋄ (10 ∷ [])

pub counts_pieces : (counts : SkipCounts) (a b c d e f : List ℕ) → a ≡ decimal counts.cut → b ≡ decimal counts.not_ip → c ≡ decimal counts.bad_header → d ≡ decimal counts.not_pim → e ≡ decimal counts.fragment → f ≡ decimal counts.family
    → spread (counts_of a b c d e f) [] ≡ line (counts_text counts)
counts_pieces counts a b c d e f p0 p1 p2 p3 p4 p5 =
    in_parts (counts_of a b c d e f) ∙ rw (p0, p1, p2, p3, p4, p5) (refl {a = line (counts_text counts)})

-- ---- what is held and wanted

abbrev record_of : Text → List ℕ → List ℕ → List ℕ → Text
record_of machine state since et =
    part (codes "holds ") ⊕ machine ⋄ codes ": " ⋄ state ⋄ codes " for " ⋄ since ⋄ codes " ms" ⊕ (part (codes ", et ") ⋄ et)

pub record_pieces : (family : AddressFamily) (held : HeldMachine (List ℕ)) (kind source gap of state since et : List ℕ) → kind ≡ kind_of held.what → source ++ gap ≡ source_words family held.what → of ≡ short_text family held.group
    → state ≡ state_name held.machine.state → since ≡ decimal held.held_for → et ≡ number_or (codes "never") held.machine.expires_in
    → spread (record_of (machine_of kind source gap of) state since et) [] ≡ record_text family held
record_pieces family held kind source gap of state since et p0 p1 p2 p3 p4 p5 =
    in_parts (record_of (machine_of kind source gap of) state since et)
    ∙ rw (p1, p0, p2, p3, p4, p5) (refl {a = record_text family held})

-- Words and an address.
abbrev address_of : List ℕ → List ℕ → Text
address_of words address = part words ⋄ address

abbrev want_of : Text → Text → Text → Text
want_of machine via except = part (codes "wants ") ⊕ machine ⊕ via ⊕ except ⋄ (10 ∷ [])

pub want_pieces : (family : AddressFamily) (entry : WantedEntry (List ℕ)) (kind source gap of toward via but except : List ℕ) → kind ≡ kind_of (tree_of entry.what) → source ++ gap ≡ source_words family (tree_of entry.what) → of ≡ short_text family entry.group
    → toward ++ via ≡ address_part family (codes " via ") entry.via → but ++ except ≡ address_part family (codes " except ") (exception_in entry.what)
    → spread (want_of (machine_of kind source gap of) (address_of toward via) (address_of but except)) [] ≡ want_line family entry
want_pieces family entry kind source gap of toward via but except p0 p1 p2 p3 p4 =
    in_parts (want_of (machine_of kind source gap of) (address_of toward via) (address_of but except))
    ∙ rw (p1, p0, p2, p3, p4) (refl {a = want_line family entry})
