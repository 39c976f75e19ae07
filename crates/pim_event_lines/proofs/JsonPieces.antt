-- The pieces in which lines of JSON are written.
use Rattle.pim_event_lines.proofs.Cited.{◌≡◌, ℕ, List, [], ◌∷◌, ◌++◌, Some, codes, decimal, refl, ◌∙◌, AddressFamily}
use Rattle.pim_event_lines.proofs.Cited.{line, state_in, short_text, Fired, Greeting, Ignored, OwnRestart, SkipCounts}
use Rattle.pim_event_lines.proofs.Cited.{TimeOut, TransitionEvent, joined_in, pruned_in, state_text}
use Rattle.pim_event_lines.proofs.Cited.{HeldMachine, WantedEntry, state_name}
use Rattle.pim_event_lines.specs.JsonLine.{address_json, source_in, cause_json, held_machine_json, held_times_json, wanted_source, want_word, want_json}
use Rattle.pim_capture.specs.declared.incomplete.RecordPlace.{RecordPlace}
use Rattle.pim_event_lines.specs.Files.{file_of, frame_json, if_several}
use Rattle.pim_jp.specs.Message.{Message}
use Rattle.pim_events.specs.declared.event.Cause.{Cause}
use Rattle.std.proofs.Common.{None}
use Rattle.pim_events.specs.declared.event.Skipping.{Skipping}
use Rattle.pim_event_lines.specs.JsonLine.{quoted, number_json, by_word, kind_word, timer_word, skip_word, meaning_word, bool_json, expiry_json, pending_json, sender_json, by_json, message_json, meaning_json, entry_json, generations_json, skipped_json, overrides_json, timers_json, timer_json, effect_json, time_out_json, held_json, counts_json}
use Rattle.pim_event_lines.proofs.Nested.{Text, part, ◌⋄◌, ◌⊕◌, spread, in_parts}

-- A string.
abbrev string_of : List ℕ → Text
string_of text = part (codes "\"") ⋄ text ⋄ codes "\""

-- ---- packets

-- A record: its number, and its file in three parts.
abbrev frame_of : List ℕ → List ℕ → List ℕ → List ℕ → Text
frame_of frame front name back = part frame ⊕ (part front ⊕ (part name ⋄ back))

abbrev sender_of : Text → List ℕ → Text
sender_of place from = part (codes "\",\"frame\":") ⊕ place ⋄ codes ",\"from\":" ⊕ string_of from

abbrev packet_of : Text → List ℕ → Text
packet_of place from = part (codes "packet") ⊕ sender_of place from ⋄ codes ",\"verdict\":\""

pub sender_members : (family : AddressFamily) (files : List (List ℕ)) (frame : RecordPlace) (from : List ℕ) (digits front name back shown : List ℕ) → digits ≡ decimal frame.«record»
    → front ≡ if_several files (codes ",\"file\":\"") → name ≡ file_of files frame → back ≡ if_several files (codes "\"") → shown ≡ short_text family from
    → spread (packet_of (frame_of digits front name back) shown) [] ≡ codes "packet" ++ sender_json family files frame from ++ codes ",\"verdict\":\""
sender_members family files frame from digits front name back shown p0 pf pn pb p1 =
    in_parts (packet_of (frame_of digits front name back) shown)
    ∙ rw (pf, pn, pb, p0, p1) (refl {a = codes "packet" ++ sender_json family files frame from ++ codes ",\"verdict\":\""})

-- What follows the verdict.
abbrev message_of : List ℕ → List ℕ → List ℕ → Text
message_of upstream joined pruned =
    part (codes "\"") ⊕ (part (codes ",\"for\":") ⊕ string_of upstream ⋄ codes ",\"joined\":" ⋄ joined ⋄ codes ",\"pruned\":" ⋄ pruned)
    ⋄ codes "}" ⋄ (10 ∷ [])

pub message_members : (family : AddressFamily) (message : Message) (upstream joined pruned : List ℕ) → upstream ≡ short_text family message.upstream → joined ≡ decimal (joined_in message.sets) → pruned ≡ decimal (pruned_in message.sets)
    → spread (message_of upstream joined pruned) [] ≡ line (codes "\"" ++ message_json family (Some message) ++ codes "}")
message_members family message upstream joined pruned p0 p1 p2 =
    in_parts (message_of upstream joined pruned) ∙ rw (p0, p1, p2) (refl {a = line (codes "\"" ++ message_json family (Some message) ++ codes "}")})

abbrev named_of : List ℕ → Text → List ℕ → Text
named_of name place from = part name ⊕ sender_of place from

pub named_members : (family : AddressFamily) (files : List (List ℕ)) (event : List ℕ) (frame : RecordPlace) (from : List ℕ) (digits front name back shown : List ℕ) → digits ≡ decimal frame.«record»
    → front ≡ if_several files (codes ",\"file\":\"") → name ≡ file_of files frame → back ≡ if_several files (codes "\"") → shown ≡ short_text family from
    → spread (named_of event (frame_of digits front name back) shown) [] ≡ event ++ sender_json family files frame from
named_members family files event frame from digits front name back shown p0 pf pn pb p1 =
    in_parts (named_of event (frame_of digits front name back) shown)
    ∙ rw (pf, pn, pb, p0, p1) (refl {a = event ++ sender_json family files frame from})

abbrev meaning_of : List ℕ → List ℕ → List ℕ → Text
meaning_of word was generation =
    part (codes ",\"verdict\":") ⊕ string_of word ⋄ codes ",\"was\":" ⋄ was ⋄ codes ",\"generation\":" ⋄ generation
    ⋄ codes "}" ⋄ (10 ∷ [])

pub meaning_members : (hello : Greeting (List ℕ)) (word was generation : List ℕ) → word ≡ meaning_word hello.verdict → was ≡ number_json hello.was → generation ≡ number_json hello.generation
    → spread (meaning_of word was generation) [] ≡ line (meaning_json hello)
meaning_members hello word was generation p0 p1 p2 =
    in_parts (meaning_of word was generation) ∙ rw (p0, p1, p2) (refl {a = line (meaning_json hello)})

abbrev entry_of : Text → List ℕ → List ℕ → List ℕ → Text
entry_of place from of names =
    part (codes "ignored") ⊕ sender_of place from ⋄ codes ",\"group\":" ⊕ string_of of ⋄ codes ",\"names\":" ⊕ string_of names
    ⋄ codes ",\"rp\":"

pub entry_members : (family : AddressFamily) (files : List (List ℕ)) (entry : Ignored (List ℕ)) (frame front name back from of names : List ℕ) → frame ≡ decimal entry.frame.«record»
    → front ≡ if_several files (codes ",\"file\":\"") → name ≡ file_of files entry.frame → back ≡ if_several files (codes "\"") → from ≡ short_text family entry.from → of ≡ short_text family entry.group → names ≡ short_text family entry.names
    → spread (entry_of (frame_of frame front name back) from of names) [] ≡ entry_json family files entry
entry_members family files entry frame front name back from of names p0 pf pn pb p1 p2 p3 =
    in_parts (entry_of (frame_of frame front name back) from of names) ∙ rw (pf, pn, pb, p0, p1, p2, p3) (refl {a = entry_json family files entry})

abbrev restart_of : Text → Text
restart_of place = part (codes "restarted\",\"frame\":") ⊕ place

pub restart_members : (files : List (List ℕ)) (place : RecordPlace) (frame front name back : List ℕ) → frame ≡ decimal place.«record»
    → front ≡ if_several files (codes ",\"file\":\"") → name ≡ file_of files place → back ≡ if_several files (codes "\"")
    → spread (restart_of (frame_of frame front name back)) [] ≡ codes "restarted\",\"frame\":" ++ frame_json files place
restart_members files place frame front name back p0 pf pn pb =
    in_parts (restart_of (frame_of frame front name back)) ∙ rw (pf, pn, pb, p0) (refl {a = codes "restarted\",\"frame\":" ++ frame_json files place})

abbrev generations_of : List ℕ → List ℕ → Text
generations_of was generation =
    part (codes ",\"was\":") ⋄ was ⋄ codes ",\"generation\":" ⋄ generation ⋄ codes "}" ⋄ (10 ∷ [])

pub generations_members : (restart : OwnRestart) (was generation : List ℕ) → was ≡ number_json restart.was → generation ≡ number_json restart.generation
    → spread (generations_of was generation) [] ≡ line (generations_json restart)
generations_members restart was generation p0 p1 =
    in_parts (generations_of was generation) ∙ rw (p0, p1) (refl {a = line (generations_json restart)})

abbrev skipped_of : Text → List ℕ → Text
skipped_of place word =
    part (codes "skipped\",\"frame\":") ⊕ place ⋄ codes ",\"why\":\"" ⋄ word ⋄ codes "\"}" ⋄ (10 ∷ [])

pub skipped_members : (files : List (List ℕ)) (skipped : Skipping) (frame front name back word : List ℕ) → frame ≡ decimal skipped.frame.«record»
    → front ≡ if_several files (codes ",\"file\":\"") → name ≡ file_of files skipped.frame → back ≡ if_several files (codes "\"") → word ≡ skip_word skipped.why
    → spread (skipped_of (frame_of frame front name back) word) [] ≡ skipped_json files skipped
skipped_members files skipped frame front name back word p0 pf pn pb p1 =
    in_parts (skipped_of (frame_of frame front name back) word) ∙ rw (pf, pn, pb, p0, p1) (refl {a = skipped_json files skipped})

-- ---- machines, neighbours and the end

-- The kind and the group of a machine.
abbrev machine_of : List ℕ → List ℕ → Text
machine_of kind of =
    part (codes ",\"what\":\"") ⋄ kind ⋄ codes "\",\"group\":" ⊕ string_of of ⋄ codes ",\"source\":"

-- The states before and after.
abbrev states_of : List ℕ → List ℕ → Text
states_of was new = part (codes ",\"was\":") ⊕ string_of was ⋄ codes ",\"now\":" ⊕ string_of new

abbrev by_of : List ℕ → List ℕ → List ℕ → Text
by_of word kind of = part (codes ",\"by\":") ⊕ string_of word ⊕ machine_of kind of

pub by_members : (family : AddressFamily) (change : TransitionEvent (List ℕ)) (word kind of : List ℕ) → word ≡ by_word change.by → kind ≡ kind_word change.what → of ≡ short_text family change.group
    → spread (by_of word kind of) [] ≡ by_json family change
by_members family change word kind of p0 p1 p2 = in_parts (by_of word kind of) ∙ rw (p0, p1, p2) (refl {a = by_json family change})

abbrev timers_of : List ℕ → List ℕ → List ℕ → List ℕ → List ℕ → Text
timers_of was new et ppt count =
    states_of was new ⋄ codes ",\"et\":" ⋄ et ⋄ codes ",\"ppt\":" ⋄ ppt ⋄ codes ",\"neighbours\":" ⋄ count
    ⋄ codes ",\"overrides\":"

pub timers_members : (change : TransitionEvent (List ℕ)) (was new et ppt count : List ℕ) → was ≡ state_text change.before → new ≡ state_text (state_in change.after) → et ≡ expiry_json change.after → ppt ≡ pending_json change.after → count ≡ decimal change.neighbours
    → spread (timers_of was new et ppt count) [] ≡ timers_json change
timers_members change was new et ppt count p0 p1 p2 p3 p4 =
    in_parts (timers_of was new et ppt count) ∙ rw (p0, p1, p2, p3, p4) (refl {a = timers_json change})

abbrev no_overrides_of : List ℕ → Text
no_overrides_of member = part (codes "null") ⋄ member ⋄ codes "}" ⋄ (10 ∷ [])

pub no_overrides_members : (files : List (List ℕ)) (member : List ℕ) → member ≡ if_several files (codes ",\"overrides_file\":null")
    → spread (no_overrides_of member) [] ≡ line (overrides_json files None ++ codes "}")
no_overrides_members files member p0 =
    in_parts (no_overrides_of member) ∙ rw p0 (refl {a = line (overrides_json files None ++ codes "}")})

abbrev overrides_of : Text → Text
overrides_of place = place ⋄ codes "}" ⋄ (10 ∷ [])

pub overrides_members : (files : List (List ℕ)) (place : RecordPlace) (frame front name back : List ℕ) → frame ≡ decimal place.«record»
    → front ≡ if_several files (codes ",\"overrides_file\":\"") → name ≡ file_of files place → back ≡ if_several files (codes "\"")
    → spread (overrides_of (frame_of frame front name back)) [] ≡ line (overrides_json files (Some place) ++ codes "}")
overrides_members files place frame front name back p0 pf pn pb =
    in_parts (overrides_of (frame_of frame front name back)) ∙ rw (pf, pn, pb, p0) (refl {a = line (overrides_json files (Some place) ++ codes "}")})

abbrev timer_of : List ℕ → List ℕ → List ℕ → Text
timer_of word kind of = part (codes "fired\",\"timer\":") ⊕ string_of word ⊕ machine_of kind of

pub timer_members : (family : AddressFamily) (firing : Fired (List ℕ)) (word kind of : List ℕ) → word ≡ timer_word firing.timer → kind ≡ kind_word firing.what → of ≡ short_text family firing.group
    → spread (timer_of word kind of) [] ≡ timer_json family firing
timer_members family firing word kind of p0 p1 p2 =
    in_parts (timer_of word kind of) ∙ rw (p0, p1, p2) (refl {a = timer_json family firing})

-- The packet that set a timer.
abbrev cause_of : Text → List ℕ → List ℕ → Text
cause_of place from moment =
    part (codes ",\"cause\":{\"frame\":") ⊕ place ⋄ codes ",\"from\":" ⊕ string_of from ⋄ codes ",\"ms\":" ⋄ moment ⋄ codes "}"

abbrev effect_of : List ℕ → List ℕ → List ℕ → Text → Text
effect_of was new echo cause = states_of was new ⋄ codes ",\"echo\":" ⋄ echo ⊕ cause ⋄ codes "}" ⋄ (10 ∷ [])

pub effect_members : (family : AddressFamily) (files : List (List ℕ)) (firing : Fired (List ℕ)) (was new echo frame front name back from moment : List ℕ) → was ≡ state_text (Some firing.before) → new ≡ state_text firing.after → echo ≡ bool_json firing.echo → frame ≡ decimal firing.cause.frame.«record»
    → front ≡ if_several files (codes ",\"file\":\"") → name ≡ file_of files firing.cause.frame → back ≡ if_several files (codes "\"") → from ≡ short_text family firing.cause.from → moment ≡ decimal firing.cause.ms
    → spread (effect_of was new echo (cause_of (frame_of frame front name back) from moment)) [] ≡ effect_json family files firing
effect_members family files firing was new echo frame front name back from moment p0 p1 p2 p3 pf pn pb p4 p5 =
    in_parts (effect_of was new echo (cause_of (frame_of frame front name back) from moment))
    ∙ rw (pf, pn, pb, p0, p1, p2, p3, p4, p5) (refl {a = effect_json family files firing})

abbrev time_out_of : List ℕ → Text → List ℕ → Text
time_out_of neighbour place moment =
    part (codes "timed-out\",\"neighbour\":") ⊕ string_of neighbour ⋄ codes ",\"cause\":{\"frame\":" ⊕ place ⋄ codes ",\"ms\":" ⋄ moment
    ⋄ codes "}}" ⋄ (10 ∷ [])

pub time_out_members : (family : AddressFamily) (files : List (List ℕ)) (over : TimeOut (List ℕ)) (neighbour frame front name back moment : List ℕ) → neighbour ≡ short_text family over.neighbour → frame ≡ decimal over.frame.«record»
    → front ≡ if_several files (codes ",\"file\":\"") → name ≡ file_of files over.frame → back ≡ if_several files (codes "\"") → moment ≡ decimal over.ms
    → spread (time_out_of neighbour (frame_of frame front name back) moment) [] ≡ time_out_json family files over
time_out_members family files over neighbour frame front name back moment p0 p1 pf pn pb p2 =
    in_parts (time_out_of neighbour (frame_of frame front name back) moment) ∙ rw (pf, pn, pb, p0, p1, p2) (refl {a = time_out_json family files over})

abbrev held_of : List ℕ → List ℕ → Text
held_of a b = part (codes "end\",\"records\":") ⋄ a ⋄ codes ",\"neighbours\":" ⋄ b ⋄ codes ",\"skipped\":"

pub held_members : (records neighbours : ℕ) (a b : List ℕ) → a ≡ decimal records → b ≡ decimal neighbours
    → spread (held_of a b) [] ≡ held_json records neighbours
held_members records neighbours a b p0 p1 = in_parts (held_of a b) ∙ rw (p0, p1) (refl {a = held_json records neighbours})

abbrev counts_of : List ℕ → List ℕ → List ℕ → List ℕ → List ℕ → List ℕ → Text
counts_of a b c d e f =
    part (codes "{\"cut\":") ⋄ a ⋄ codes ",\"not-ip\":" ⋄ b ⋄ codes ",\"bad-header\":" ⋄ c ⋄ codes ",\"not-pim\":" ⋄ d
    ⋄ codes ",\"fragment\":" ⋄ e ⋄ codes ",\"family\":" ⋄ f ⋄ codes "}" ⋄ codes "}" ⋄ (10 ∷ [])

pub counts_members : (counts : SkipCounts) (a b c d e f : List ℕ) → a ≡ decimal counts.cut → b ≡ decimal counts.not_ip → c ≡ decimal counts.bad_header → d ≡ decimal counts.not_pim → e ≡ decimal counts.fragment → f ≡ decimal counts.family
    → spread (counts_of a b c d e f) [] ≡ line (counts_json counts ++ codes "}")
counts_members counts a b c d e f p0 p1 p2 p3 p4 p5 =
    in_parts (counts_of a b c d e f) ∙ rw (p0, p1, p2, p3, p4, p5) (refl {a = line (counts_json counts ++ codes "}")})

-- ---- what is held and wanted

-- An address, or `null`.
abbrev address_of : List ℕ → List ℕ → List ℕ → Text
address_of front address back = part front ⊕ (part address ⋄ back)

abbrev held_machine_of : List ℕ → List ℕ → Text → Text
held_machine_of kind of source = part (codes "record\"") ⊕ machine_of kind of ⊕ source

pub held_machine_members : (family : AddressFamily) (held : HeldMachine (List ℕ)) (kind of front source back : List ℕ) → kind ≡ kind_word held.what → of ≡ short_text family held.group → front ++ (source ++ back) ≡ address_json family (source_in held.what)
    → spread (held_machine_of kind of (address_of front source back)) [] ≡ held_machine_json family held
held_machine_members family held kind of front source back p0 p1 p2 =
    in_parts (held_machine_of kind of (address_of front source back))
    ∙ rw (p2, p0, p1) (refl {a = held_machine_json family held})

abbrev held_times_of : List ℕ → List ℕ → List ℕ → List ℕ → Text
held_times_of state since et ppt =
    part (codes ",\"state\":") ⊕ string_of state ⋄ codes ",\"for\":" ⋄ since ⋄ codes ",\"et\":" ⋄ et ⋄ codes ",\"ppt\":" ⋄ ppt

pub held_times_members : (held : HeldMachine (List ℕ)) (state since et ppt : List ℕ) → state ≡ state_name held.machine.state → since ≡ decimal held.held_for → et ≡ expiry_json (Some held.machine) → ppt ≡ pending_json (Some held.machine)
    → spread (held_times_of state since et ppt) [] ≡ held_times_json held
held_times_members held state since et ppt p0 p1 p2 p3 =
    in_parts (held_times_of state since et ppt) ∙ rw (p0, p1, p2, p3) (refl {a = held_times_json held})

abbrev last_cause_of : Text → Text
last_cause_of cause = cause ⋄ codes "}" ⋄ (10 ∷ [])

pub last_cause_members : (family : AddressFamily) (files : List (List ℕ)) (cause : Cause (List ℕ)) (frame front name back from moment : List ℕ) → frame ≡ decimal cause.frame.«record»
    → front ≡ if_several files (codes ",\"file\":\"") → name ≡ file_of files cause.frame → back ≡ if_several files (codes "\"") → from ≡ short_text family cause.from → moment ≡ decimal cause.ms
    → spread (last_cause_of (cause_of (frame_of frame front name back) from moment)) [] ≡ line (cause_json family files cause ++ codes "}")
last_cause_members family files cause frame front name back from moment p0 pf pn pb p1 p2 =
    in_parts (last_cause_of (cause_of (frame_of frame front name back) from moment))
    ∙ rw (pf, pn, pb, p0, p1, p2) (refl {a = line (cause_json family files cause ++ codes "}")})

abbrev want_of : List ℕ → List ℕ → Text → Text → Text
want_of word of source via =
    part (codes "want\",\"what\":") ⊕ string_of word ⋄ codes ",\"group\":" ⊕ string_of of ⋄ codes ",\"source\":" ⊕ source
    ⋄ codes ",\"via\":" ⊕ via ⋄ codes "}" ⋄ (10 ∷ [])

pub want_members : (family : AddressFamily) (entry : WantedEntry (List ℕ)) (word of front source back before via behind : List ℕ) → word ≡ want_word entry.what → of ≡ short_text family entry.group
    → front ++ (source ++ back) ≡ address_json family (wanted_source entry.what) → before ++ (via ++ behind) ≡ address_json family entry.via
    → spread (want_of word of (address_of front source back) (address_of before via behind)) [] ≡ want_json family entry
want_members family entry word of front source back before via behind p0 p1 p2 p3 =
    in_parts (want_of word of (address_of front source back) (address_of before via behind))
    ∙ rw (p2, p3, p0, p1) (refl {a = want_json family entry})

-- ---- the port

abbrev place_of : List ℕ → Text
place_of shown = part (codes ",\"port\":") ⊕ string_of shown ⋄ codes ",\"event\":\""

pub place_members : (name : List ℕ) (shown : List ℕ) → shown ≡ name → spread (place_of shown) [] ≡ codes ",\"port\":" ++ quoted name ++ codes ",\"event\":\""
place_members name shown p0 = in_parts (place_of shown) ∙ rw p0 (refl {a = codes ",\"port\":" ++ quoted name ++ codes ",\"event\":\""})
